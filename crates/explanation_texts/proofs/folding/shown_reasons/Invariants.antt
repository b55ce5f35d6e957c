use Rattle.std.proofs.Common.{◌≡◌, map, take}
use Rattle.std.specs.List.{flat_map}
use Rattle.explanation_texts.specs.Folding.{unless_told}
use Rattle.explanation_texts.proofs.folding.shown_reasons.Given as goal

abbrev pub invariant-loop-one : goal.invariant-loop-one
invariant-loop-one l = map (λ r. r.now) l.shown.items ≡ flat_map (unless_told l.told) (take l.one-index l.told)
