use Rattle.std.proofs.Common.{List, [], sym, subst}
use Rattle.schema_tree.specs.declared.schema.Answer.{Answer}
use Rattle.typing_answers.specs.Replies.{AreSureAnswers, none}
use Rattle.typing_answers.proofs.replies.answers.Goals as goal

pub loop-association-init : goal.loop-association-init
loop-association-init g c = record {
  all = sym c.into_iter-association-iterator.ensures.into_iter_gives.0;
  replied = subst (λ (ys : List Answer). AreSureAnswers c.args.schema.now c.args.terms.now (g.V.View.known c.args.view.now) [] ys) (sym c.new-answers.ensures.items) none;
}
