use Rattle.std.proofs.Common.{◌≡◌, map, take}
use Rattle.typing_answers.specs.Numbering.{claim_by}
use Rattle.typing_answers.proofs.claims.claims_of.Given as goal

abbrev pub invariant-loop-answer : goal.invariant-loop-answer
invariant-loop-answer l = l.claims.items ≡ map (claim_by l.by_number) (take l.answer-index l.answers)
