use Rattle.std.proofs.Common.{subst, sym}
use Rattle.std.specs.Prelude.{Contains}
use Rattle.std.proofs.lemmas.List.Elements.{Contains-get_or}
use Rattle.typing_answers.proofs.claims.claims_of.Goals as goal

pub claim_of-requires : goal.claim_of-requires
claim_of-requires c =
    let answers = c.args.answers.now in
    let held = Contains-get_or answers c.loop-answer.answer-index c.answer-item.result c.loop-answer-test.true in
    c.requires c.answer-item.result (subst (λ x. Contains answers x) (sym c.answer-item.is) held)
