use Rattle.std.specs.Option.{option_copied}
use Rattle.explanation_texts.proofs.Stepped.{count_step, got}
use Rattle.explanation_texts.proofs.setting.Setting.push_counts.Goals as goal

pub loop-number-preserved : goal.loop-number-preserved
loop-number-preserved c =
    let same = got c.args.high.now c.loop-number.number c.get.result c.get.ensures.lookup in
    count_step c.args.self.now.terms.now c.args.occs.now c.args.high.now c.args.low.now c.loop-number.number _ (option_copied c.get.result)
    c.loop-number.out.items
    c.push_count.new.out.items _ c.loop-number-test.true same c.loop-number.invariant c.in_ok-push_count.ensures
