use Rattle.std.proofs.Common.{map, refl, subst}
use Rattle.std.specs.Prelude.{string_bytes}
use Rattle.command_words.specs.Drills.{IsCall}
use Rattle.command_words.specs.Lent.{call_of}
use Rattle.shex_run.proofs.Ended.{with_words}
use Rattle.shex_run.proofs.top.end.Goals as goal

pub returns-in-Ok-Files : goal.returns-in-Ok-Files
returns-in-Ok-Files g c =
    c.end_command.ensures (map string_bytes c.args.words.now) (subst (λ x. IsCall (map string_bytes c.args.words.now) (call_of x)) c.in-Ok-Files.field-0-is c.in-Ok-Files.ensures.asked)

pub returns-in-Ok-Drill : goal.returns-in-Ok-Drill
returns-in-Ok-Drill g c =
    c.end_drill.ensures (map string_bytes c.args.words.now) (subst (λ x. IsCall (map string_bytes c.args.words.now) (call_of x)) c.in-Ok-Drill.field-0-is c.in-Ok-Drill.ensures.asked)

pub returns-in-Err : goal.returns-in-Err
returns-in-Err g c = with_words _ _ _ _ _ (record { told_same = refl; faults_same = refl }) (record { got_same = refl; faults_same = refl }) c.in-Err.error c.in-Err.ensures.refused c.refuse.ensures
