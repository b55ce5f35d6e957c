use Rattle.shex_drill.specs.Files.{contents_of}
use Rattle.std.proofs.Common.{◌≡◌, subst, sym}
use Rattle.std.specs.Prelude.{IfSome, Some}
use Rattle.shex_inputs.specs.Held.{IsTaken, held_by}
use Rattle.shex_run.specs.Drills.{drill_command}
use Rattle.shex_run.specs.Tasks.{inputs_of}
use Rattle.shex_run.proofs.Drilled.{is_confirmed}
use Rattle.shex_run.proofs.drilling.check_texts.Goals as goal

pub unreachable-requires-in_default-stop : goal.unreachable-requires-in_default-stop
unreachable-requires-in_default-stop c =
    let own = c.requires.proof in
    let contents = contents_of c.args.files.now in
    let own_taken = c.in_ok-holding.ensures.taken in
    let same : c.in-Some.digests ≡ own_taken.files = subst (λ o. IfSome o (λ d. d ≡ own_taken.files)) c.in-Some.is own_taken.kept in
    let h = held_by c.in_ok-holding.field-0.holding c.in-Some.digests in
    let taken : IsTaken (Some contents) (inputs_of drill_command) h =
    subst (λ d. IsTaken (Some contents) (inputs_of drill_command) (held_by c.in_ok-holding.field-0.holding d)) (sym same) own_taken.taken in
    is_confirmed contents h taken (λ k also. (c.inputs_are_one.ensures contents (inputs_of drill_command)).0 k h also taken) own.question own.answers c.args.proof.now own.asked own.proof c.in-Err.stop c.in_default-stop.not-Memory c.in-Err.ensures.stops
