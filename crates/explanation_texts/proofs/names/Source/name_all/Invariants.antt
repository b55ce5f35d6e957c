use Rattle.std.proofs.Common.{◌-◌, ◌^◌}
use Rattle.explanation_texts.specs.Naming.{HaveNames}
use Rattle.explanation_texts.proofs.names.Source.name_all.Given as goal

abbrev pub invariant-loop-at : goal.invariant-loop-at
invariant-loop-at l = HaveNames l.self.schema.now l.self.terms.now l.named

abbrev pub decreases-loop-at : goal.decreases-loop-at
decreases-loop-at l = 2 ^ 64 - l.at
