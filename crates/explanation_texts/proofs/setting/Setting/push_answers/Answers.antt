use Rattle.std.proofs.Common.{◌≡◌, ◌∙◌, ◌+◌, ap, get_or, length, rules}
use Rattle.std.specs.Option.{option_copied}
use Rattle.explanation_texts.proofs.Stepped.{answer_step, got}
use Rattle.explanation_texts.proofs.setting.Setting.push_answers.Goals as goal

pub loop-place-preserved : goal.loop-place-preserved
loop-place-preserved c =
    let told = c.index-answers-place.result in
    let is : told ≡ get_or c.args.answers.now c.loop-place.place told = search rules in
    let same = got c.args.asked.now c.loop-place.place c.get.result c.get.ensures.lookup in
    answer_step c.args.self.now c.args.asked.now c.args.answers.now c.loop-place.place c.loop-place.before _ told (option_copied c.get.result)
    c.loop-place.out.items
    c.push_told.new.out.items _ c.loop-place-test.true is same (c.in_ok-before.ensures ∙ ap (λ bs. c.loop-place.before + length bs) c.as_slice.ensures)
    c.loop-place.invariant c.in_ok-push_told.ensures
