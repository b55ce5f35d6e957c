use Rattle.std.proofs.Common.{◌≡◌, ap, encode_utf8_all, sym, ◌∙◌}
use Rattle.node_constraint.proofs.Numbers.{decimal_form}
use Rattle.node_constraint.proofs.datatypes.decimal_in.Goals as goal

pub returns-then-is_number-clause-decimal : goal.returns-then-is_number-clause-decimal
returns-then-is_number-clause-decimal c = λ d e.
    let same : c.as_str.result.now ≡ d = cc in
    decimal_form c.args.literal.now d (sym c.if-is_number.ensures) (sym same ∙ c.as_str.ensures.bytes ∙ ap encode_utf8_all c.lex.ensures)
