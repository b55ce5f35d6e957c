use Rattle.std.proofs.Common.{◌≡◌, take}
use Rattle.std.specs.List.{flat_map}
use Rattle.explanation_texts.specs.Reasons.{constraint_at}
use Rattle.explanation_texts.proofs.reasons.constraints_at.Given as goal

abbrev pub invariant-loop-place : goal.invariant-loop-place
invariant-loop-place l = l.numbers.items ≡ flat_map constraint_at (take l.place-index l.places)
