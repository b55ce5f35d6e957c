use Rattle.xs_text.proofs.Order.{cmp_magnitudes}
use Rattle.xs_text.proofs.decimal.Decimal.compare_magnitudes.Goals as goal

pub returns : goal.returns
returns c =
    let a = c.args.self.now in
    let b = c.args.other.now in
    let numbers = cmp_magnitudes a.whole.now a.fraction.now b.whole.now b.fraction.now a.whole_digits a.fraction_digits b.whole_digits b.fraction_digits a.no_leading_zero a.no_trailing_zero b.no_leading_zero b.no_trailing_zero in
    cc
