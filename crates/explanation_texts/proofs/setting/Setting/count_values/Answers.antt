use Rattle.std.proofs.Common.{map}
use Rattle.std.specs.Option.{option_copied}
use Rattle.serde_json.specs.View.{view}
use Rattle.explanation_texts.proofs.Stepped.{counted_step, got, seen_behind}
use Rattle.explanation_texts.proofs.setting.Setting.count_values.Goals as goal

pub loop-number-preserved : goal.loop-number-preserved
loop-number-preserved c =
    let same = got c.args.high.now c.loop-number.number c.get.result c.get.ensures.lookup in
    counted_step c.args.self.now.terms.now c.args.occs.now c.args.high.now c.args.low.now c.loop-number.number _ (option_copied c.get.result)
    (map view c.loop-number.values.items) (map view c.push.new.self.items) _ c.loop-number-test.true same c.loop-number.invariant
    (seen_behind c.loop-number.values.items c.push.new.self.items c.in_ok-count_value.field-0 _ c.in_ok-push.ensures.items c.in_ok-count_value.ensures)
