use Rattle.typing_answers.proofs.Truth.{sure_answers}
use Rattle.typing_answers.proofs.laws.sure_answers_are_true.Goals as goal

pub returns : goal.returns
returns c = sure_answers (record {
  exist = c.typing_is_one.ensures.exists;
  alike = c.strata_are_alike.ensures.answers;
  stratified = c.strata_are_least.ensures.stratified;
  sure = c.sure_is_true.ensures.sure;
  follows = c.layers_are_meanings.ensures.sure_answers;
  one = c.verdict_is_one.ensures.one;
  refined = c.refinement_is_true.ensures.whole;
  decided = c.refinement_is_complete.ensures.expressions;
  widths = c.width_is_one.ensures.one;
})
