use Rattle.std.proofs.Common.{ℕ, ◌<◌}
use Rattle.schema_load.specs.declared.part.Part.{Part}
use Rattle.schema_load.specs.Given.{IsGivenAgain}
use Rattle.schema_load.specs.Parts.{IsAt}
use Rattle.schema_load.proofs.names.find_twice.Given as goal

abbrev pub invariant-loop-place : goal.invariant-loop-place
invariant-loop-place l = (q : ℕ) → q < l.place → (x : Part) → IsAt l.parts q x → ¬ IsGivenAgain l.names x q
