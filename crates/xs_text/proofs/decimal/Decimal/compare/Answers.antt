use Rattle.std.proofs.Common.{◌++◌, length}
use Rattle.xs_text.proofs.Value.{value}
use Rattle.xs_text.proofs.Order.{magnitude_positive, scaled_positive}
use Rattle.xs_text.proofs.Signs.{below_by_sign, above_by_sign}
use Rattle.xs_text.proofs.decimal.Decimal.compare.Goals as goal

pub returns-in-true-false : goal.returns-in-true-false
returns-in-true-false c =
    let a = c.args.self.now in
    let b = c.args.other.now in
    let nonzero = magnitude_positive a.whole.now a.fraction.now a.whole_digits a.fraction_digits a.no_leading_zero a.no_trailing_zero (a.zero_is_not_negative c.in-true-false.is-0) in
    below_by_sign a.is_negative b.is_negative _ _ c.in-true-false.is-0 c.in-true-false.is-1
    (scaled_positive (value (a.whole.now ++ a.fraction.now)) (length b.fraction.now) nonzero)

pub returns-in-false-true : goal.returns-in-false-true
returns-in-false-true c =
    let a = c.args.self.now in
    let b = c.args.other.now in
    let nonzero = magnitude_positive b.whole.now b.fraction.now b.whole_digits b.fraction_digits b.no_leading_zero b.no_trailing_zero (b.zero_is_not_negative c.in-false-true.is-1) in
    above_by_sign a.is_negative b.is_negative _ _ c.in-false-true.is-0 c.in-false-true.is-1
    (scaled_positive (value (b.whole.now ++ b.fraction.now)) (length a.fraction.now) nonzero)
