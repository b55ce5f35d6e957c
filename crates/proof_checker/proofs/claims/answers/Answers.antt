use Rattle.std.proofs.Common.{◌∷◌, [], ◌++◌, subst, sym, refl}
use Rattle.lists.proofs.Members.{yields_on, yields_there}
use Rattle.proof_file.specs.Answers.{AreClaimed}
use Rattle.proof_checker.proofs.Checked.{answers_push}
use Rattle.proof_checker.proofs.claims.answers.Goals as goal

pub loop-claim-init : goal.loop-claim-init
loop-claim-init c = record {
  all = sym c.into_iter-claim-iterator.ensures.into_iter_gives.0;
  answers = subst (AreClaimed c.args.nodes.now []) (sym c.in_ok-answers.ensures.items) refl;
}

pub answer-requires : goal.answer-requires
answer-requires c = c.requires c.in-Some.claim (yields_there _ c.loop-claim.yielded _ _ c.in-Some.claim c.loop-claim.invariant.all c.in-Some.ensures.steps.0)

pub loop-claim-preserved : goal.loop-claim-preserved
loop-claim-preserved c = record {
  all = yields_on _ c.loop-claim.yielded _ _ c.in-Some.claim c.loop-claim.invariant.all c.in-Some.ensures.steps.0;
  answers =
      subst (AreClaimed c.args.nodes.now (c.loop-claim.yielded ++ c.in-Some.claim ∷ [])) (sym c.in_ok-push.ensures.items)
      (answers_push c.args.nodes.now c.loop-claim.yielded c.in-Some.claim c.loop-claim.answers.items c.answer.result c.answer.ensures c.loop-claim.invariant.answers);
}
