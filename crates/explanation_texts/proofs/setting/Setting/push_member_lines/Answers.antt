use Rattle.std.specs.Option.{option_copied}
use Rattle.explanation_texts.proofs.Stepped.{got, member_step}
use Rattle.explanation_texts.proofs.setting.Setting.push_member_lines.Goals as goal

pub loop-number-preserved : goal.loop-number-preserved
loop-number-preserved c =
    let same = got c.args.whys.now c.loop-number.number c.get.result c.get.ensures.lookup in
    member_step c.args.self.now c.args.node c.args.whys.now c.args.members.now c.loop-number.number _ (option_copied c.get.result) c.loop-number.out.items
    c.push_member_line.new.out.items _ c.loop-number-test.true same c.loop-number.invariant c.in_ok-push_member_line.ensures
