use Rattle.std.proofs.Common.{◌∙◌, ◌&&◌, int_le, sym, ap}
use Rattle.xs_text.specs.Decimal.{integer_value}
use Rattle.xs_text.proofs.Integers.{decimal_from_integer, answer_from}
use Rattle.xs_text.proofs.integer.is_integer_from.Goals as goal

pub compare-requires-clause-a_decimal : goal.compare-requires-clause-a_decimal
compare-requires-clause-a_decimal c = decimal_from_integer c.args.text.now (sym c.if-is_integer.ensures)

pub compare-requires-clause-b_decimal : goal.compare-requires-clause-b_decimal
compare-requires-clause-b_decimal c = decimal_from_integer c.args.lowest.now c.requires

pub returns-then-is_integer : goal.returns-then-is_integer
returns-then-is_integer c =
    c.is_ge.ensures
    ∙ answer_from c.args.text.now c.args.lowest.now c.compare.result (sym c.if-is_integer.ensures) c.requires c.compare.ensures.less
    ∙ ap (λ b. b && int_le (integer_value c.args.lowest.now) (integer_value c.args.text.now)) c.if-is_integer.ensures
