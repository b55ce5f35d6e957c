use Rattle.node_constraint.proofs.Numbers.{literal_told}
use Rattle.node_constraint.proofs.datatypes.is_literal_of.Goals as goal

pub returns-then-eq : goal.returns-then-eq
returns-then-eq c =
    literal_told c.datatype.result.now c.args.literal.now.datatype c.lex.result.now c.args.literal.now.lex c.args.datatype.now c.eq.result c.is_valid.result
    c.datatype.ensures c.lex.ensures c.eq.ensures c.if-eq.true c.is_valid.ensures
