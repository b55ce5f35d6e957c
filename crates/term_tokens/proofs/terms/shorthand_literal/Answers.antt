use Rattle.std.proofs.Common.{refl}
use Rattle.term_tokens.proofs.Texts.{shorthand_is, shorthand_typed}
use Rattle.term_tokens.proofs.terms.shorthand_literal.Goals as goal

pub unreachable-requires : goal.unreachable-requires
unreachable-requires c = shorthand_typed _ c.datatype_of.result.now c.args.symbol c.in_ok-datatype.ensures c.datatype_of.ensures (c.in-None.ensures.none.0 refl)

pub returns : goal.returns
returns c = shorthand_is c.args.text.now _ _ c.datatype_of.result.now c.args.symbol _ c.in_ok-lex.ensures c.in_ok-datatype.ensures c.datatype_of.ensures c.in-Some.ensures.literal
