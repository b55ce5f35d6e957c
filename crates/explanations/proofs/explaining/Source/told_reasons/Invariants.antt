use Rattle.std.proofs.Common.{◌≡◌, ◌++◌}
use Rattle.explanations.specs.Blocks.{IsToldReason}
use Rattle.explanations.specs.Mentions.{reason_mentions}
use Rattle.explanations.proofs.Told.{AreTellings}
use Rattle.explanations.proofs.explaining.Source.told_reasons.Given as goal

abbrev pub invariant-loop-reason : goal.invariant-loop-reason
invariant-loop-reason g l = record {
  all : l.fn.reasons.items ≡ l.yielded ++ l.reason-iterator.rest.items;
  told : AreTellings l.self.schema.now l.self.terms.now (g.V.View.known l.self.view.now)
      (λ all. IsToldReason l.self.schema.now l.self.terms.now (g.V.View.known l.self.view.now) all l.self.graph.now.triples l.pair) reason_mentions
      l.fn.seen l.seen l.yielded l.told.items;
}
