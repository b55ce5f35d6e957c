use Rattle.std.proofs.Common.{◌≡◌, refl, subst, true}
use Rattle.input_names.specs.Names.{Inputs, is_among}
use Rattle.input_names.specs.Lent.{inputs_of}
use Rattle.command_words.specs.Checks.{IsApart, names_with_proof, other_names, same_name, same_to}
use Rattle.command_words.specs.Lent.{request_of, task_of}
use Rattle.command_words.specs.Requests.{proof_of}
use Rattle.command_words.proofs.Exact.{given_failed}
use Rattle.command_words.proofs.checks.checked.Goals as goal

pub returns-in_err-inputs-clause-fault : goal.returns-in_err-inputs-clause-fault
returns-in_err-inputs-clause-fault c = given_failed (request_of c.args.request) c.from_residual.result c.in_err-inputs.field-0.0 c.from_residual.ensures.1 c.in_err-inputs.ensures.fault

pub returns-in-Some-clause-fault : goal.returns-in-Some-clause-fault
returns-in-Some-clause-fault c =
    same_name (inputs_of c.in_ok-inputs.inputs).imports c.in_ok-inputs.ensures.ok.passes c.in-Some.name.now c.in-Some.ensures.found.0
    (subst (λ (i : Inputs). is_among c.in-Some.name.now (other_names i (task_of c.args.request.task)) ≡ true) c.in_ok-inputs.ensures.ok.leads c.in-Some.ensures.found.1)

pub returns-in-Some-same_to-clause-fault : goal.returns-in-Some-same_to-clause-fault
returns-in-Some-same_to-clause-fault c =
    same_to (inputs_of c.in_ok-inputs.inputs).imports c.in_ok-inputs.ensures.ok.passes
    (subst (λ (i : Inputs). IsApart (proof_of (task_of c.args.request.task)) (other_names i (task_of c.args.request.task))) c.in_ok-inputs.ensures.ok.leads (c.in_default.ensures.missed refl))
    c.in-Some-same_to.name.now c.in-Some-same_to.ensures.found.0
    (subst (λ (i : Inputs). is_among c.in-Some-same_to.name.now (names_with_proof i (task_of c.args.request.task)) ≡ true) c.in_ok-inputs.ensures.ok.leads c.in-Some-same_to.ensures.found.1)
