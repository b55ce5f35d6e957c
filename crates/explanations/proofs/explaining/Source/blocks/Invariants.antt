use Rattle.std.proofs.Common.{◌-◌, ◌^◌}
use Rattle.explanations.proofs.Walked.{IsWalked}
use Rattle.explanations.proofs.explaining.Source.blocks.Given as goal

abbrev pub invariant-loop-at : goal.invariant-loop-at
invariant-loop-at g l =
    IsWalked l.self.schema.now l.self.terms.now (g.V.View.known l.self.view.now) l.self.graph.now.triples l.fn.seen l.from l.seen l.at l.blocks.items

abbrev pub decreases-loop-at : goal.decreases-loop-at
decreases-loop-at g l = 2 ^ 64 - l.at
