use Rattle.std.proofs.Common.{◌≡◌, ◌++◌, take}
use Rattle.explanation_texts.specs.Words.{more_constraints}
use Rattle.explanation_texts.proofs.words.push_more.Given as goal

abbrev pub invariant-loop-number : goal.invariant-loop-number
invariant-loop-number l = l.out.items ≡ l.fn.out.items ++ more_constraints l.terms l.occs (take l.number-index l.numbers)
