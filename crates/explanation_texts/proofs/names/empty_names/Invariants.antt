use Rattle.explanation_texts.specs.Naming.{AreEmpty}
use Rattle.explanation_texts.proofs.names.empty_names.Given as goal

abbrev pub invariant-loop-place : goal.invariant-loop-place
invariant-loop-place l = AreEmpty l.names.items
