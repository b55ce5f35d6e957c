use Rattle.std.proofs.Common.{◌∙◌, arith, ap, length}
use Rattle.xs_pattern.proofs.Bitwise.{length_marks}
use Rattle.xs_pattern.proofs.words.row.Goals as goal

pub advance-requires : goal.advance-requires
advance-requires c =
    let len = ap length (c.deref.ensures.value ∙ c.in_ok-fill_marks.ensures) ∙ length_marks _ _ in
    let none = c.clear.ensures.len in
    let count = c.requires.count in omega (arith, len, none, count)
