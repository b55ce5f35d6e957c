use Rattle.std.proofs.Common.{◌∙◌, arith}
use Rattle.shexj_writer.proofs.Lists.{IsHeldInner, IsHeldMember, all_taken, all_written, exprs_are, exprs_held, inner_data, member_data, triples_are, triples_held}
use Rattle.shexj_writer.proofs.expressions.+expressions.Goals as goal

pub expr_values-returns-clause-values : goal.expr_values-returns-clause-values
expr_values-returns-clause-values t c =
    all_written inner_data c.args.members.now c.loop-member.all.items c.loop-member.member-index (omega arith) c.loop-member.invariant.0 ∙ exprs_are c.args.members.now

pub expr_values-returns-clause-held : goal.expr_values-returns-clause-held
expr_values-returns-clause-held t c =
    exprs_held c.args.members.now (all_taken IsHeldInner c.args.members.now c.loop-member.member-index (omega arith) c.loop-member.invariant.1)

pub triple_values-returns-clause-values : goal.triple_values-returns-clause-values
triple_values-returns-clause-values t c =
    all_written member_data c.args.members.now c.loop-member.all.items c.loop-member.member-index (omega arith) c.loop-member.invariant.0 ∙ triples_are c.args.members.now

pub triple_values-returns-clause-held : goal.triple_values-returns-clause-held
triple_values-returns-clause-held t c =
    triples_held c.args.members.now (all_taken IsHeldMember c.args.members.now c.loop-member.member-index (omega arith) c.loop-member.invariant.1)
