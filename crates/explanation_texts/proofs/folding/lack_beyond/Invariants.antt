use Rattle.std.proofs.Common.{◌≡◌, drop}
use Rattle.explanation_texts.specs.Folding.{lack_beyond}
use Rattle.explanation_texts.proofs.folding.lack_beyond.Given as goal

abbrev pub invariant-loop-other : goal.invariant-loop-other
invariant-loop-other l = lack_beyond l.told l.constraints l.left (drop l.other-index l.told) ≡ lack_beyond l.told l.constraints l.lack l.told
