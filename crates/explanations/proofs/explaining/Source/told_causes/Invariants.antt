use Rattle.std.proofs.Common.{◌≡◌, ◌++◌}
use Rattle.explanations.specs.Blocks.{IsToldCause}
use Rattle.explanations.specs.Mentions.{cause_mentions}
use Rattle.explanations.proofs.Told.{AreTellings}
use Rattle.explanations.proofs.explaining.Source.told_causes.Given as goal

abbrev pub invariant-loop-cause : goal.invariant-loop-cause
invariant-loop-cause g l = record {
  all : l.fn.causes.items ≡ l.yielded ++ l.cause-iterator.rest.items;
  told : AreTellings l.self.schema.now l.self.terms.now (g.V.View.known l.self.view.now)
      (λ all. IsToldCause l.self.schema.now l.self.terms.now (g.V.View.known l.self.view.now) all l.node) cause_mentions
      l.fn.seen l.seen l.yielded l.told.items;
}
