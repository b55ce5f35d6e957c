use Rattle.std.proofs.lemmas.Result.{IfOk-weaker}
use Rattle.proof_checker.specs.Checks.{IsAcceptedFor, IsTrueAs}
use Rattle.proof_checker.proofs.Truthful.{AreLaws, true_as}
use Rattle.proof_checker.proofs.checking.check.Goals as goal

pub returns-clause-sound : goal.returns-clause-sound
returns-clause-sound c =
    let laws : AreLaws = record {
      sound = c.accepted_is_true.ensures;
      stratified = c.strata_are_least.ensures.stratified;
      exists = c.typing_is_one.ensures.exists;
      typings = c.strata_are_alike.ensures.typings;
      answers = c.strata_are_alike.ensures.answers;
    } in
    IfOk-weaker c.checked.result
    (IsAcceptedFor c.args.schema.now c.args.files.now c.args.terms.now c.checked.new.terms c.args.graph.now.triples c.args.proof.now)
    (IsTrueAs c.args.schema.now c.args.terms.now c.checked.new.terms c.args.graph.now.triples c.args.proof.now)
    (λ answers a. true_as laws c.args.schema.now c.args.files.now c.args.terms.now c.checked.new.terms c.args.graph.now.triples c.args.proof.now c.requires.loaded answers a)
    c.checked.ensures.accepted
