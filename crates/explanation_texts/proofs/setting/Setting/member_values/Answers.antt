use Rattle.std.proofs.Common.{map}
use Rattle.std.specs.Option.{option_copied}
use Rattle.serde_json.specs.View.{view}
use Rattle.explanation_texts.proofs.Stepped.{got, seen_behind, told_member_step}
use Rattle.explanation_texts.proofs.setting.Setting.member_values.Goals as goal

pub loop-number-preserved : goal.loop-number-preserved
loop-number-preserved c =
    let same = got c.args.whys.now c.loop-number.number c.get.result c.get.ensures.lookup in
    told_member_step c.args.self.now c.args.node c.args.whys.now c.args.members.now c.loop-number.number _ (option_copied c.get.result)
    (map view c.loop-number.values.items) (map view c.push.new.self.items) _ c.loop-number-test.true same c.loop-number.invariant
    (seen_behind c.loop-number.values.items c.push.new.self.items c.in_ok-member_value.field-0 _ c.in_ok-push.ensures.items c.in_ok-member_value.ensures)
