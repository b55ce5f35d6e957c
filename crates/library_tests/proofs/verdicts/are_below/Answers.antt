use Rattle.std.proofs.Common.{◌<◌, arith, get_or}
use Rattle.schema_tree.specs.declared.schema.ExprId.{ExprId}
use Rattle.lists.proofs.Members.{not_in_none}
use Rattle.library_tests.proofs.CheckedSchemas.{more_hold, all_hold}
use Rattle.library_tests.proofs.verdicts.are_below.Goals as goal

pub loop-member-init : goal.loop-member-init
loop-member-init c = λ e none. absurd (not_in_none e none)

pub loop-member-preserved : goal.loop-member-preserved
loop-member-preserved c =
    let small : (get_or c.args.members.now c.loop-member.member-index (record { 0 = 0 })).0 < c.args.number = omega arith in
    more_hold (λ (e : ExprId). e.0 < c.args.number) c.args.members.now c.loop-member.member-index _ c.loop-member-test.true c.loop-member.invariant small

pub returns : goal.returns
returns c seen = all_hold (λ (e : ExprId). e.0 < c.args.number) c.args.members.now c.loop-member.member-index c.loop-member-test.false c.loop-member.invariant
