use Rattle.std.proofs.Common.{◌∷◌, ◌++◌, [], List, refl, subst, sym}
use Rattle.schema_tree.specs.declared.schema.Answer.{Answer}
use Rattle.schema_tree.specs.Sure.{IsSure}
use Rattle.typing_answers.specs.Replies.{AreSureAnswers, IsSureAnswer}
use Rattle.typing_answers.proofs.Given.{one_given, one_left}
use Rattle.typing_answers.proofs.replies.reply.Goals as goal

pub returns-in_default : goal.returns-in_default
returns-in_default c =
    λ s terms view asked sure are. one_left asked c.args.answers.now.items c.args.association are (subst (λ v. IsSure s terms view c.args.association.node c.args.association.expr v) (c.decided.ensures.none c.in_default.is) sure)

pub returns : goal.returns
returns c = λ s terms view asked sure are.
    let own : IsSureAnswer s terms view c.args.association c.answered.result = subst (λ x. IsSureAnswer s terms view c.args.association x)
    (sym c.answered.ensures) (record { node = refl; target = refl; sure = subst (λ v. IsSure s terms view c.args.association.node c.args.association.expr v) c.in-Some.ensures.some sure }) in
    subst (λ (xs : List Answer). AreSureAnswers s terms view (asked ++ c.args.association ∷ []) xs) (sym c.in_ok-push.ensures.items)
    (one_given asked c.args.answers.now.items c.args.association c.answered.result are own)
