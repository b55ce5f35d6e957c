use Rattle.std.proofs.Common.{subst, refl}
use Rattle.tool_words.specs.Lent.{editing_of}
use Rattle.session_run.specs.Stopping.{Explains, FaultsAs}
use Rattle.session_run.specs.declared.stop.Stop.{Stop}
use Rattle.session_run.proofs.Ended.{with_answers, with_failure, with_refusal}
use Rattle.session_run.proofs.top.end_editing.Goals as goal

pub returns-in-Ok : goal.returns-in-Ok
returns-in-Ok g c = λ words asked.
    let (replies, are, says) = c.in-Ok.ensures.answers in
    with_answers words (editing_of c.args.editing.now) asked _ _ _ _ replies c.in-Ok.said c.into_response.result.text.items c.into_response.result.notes.items c.into_response.result.status are says c.into_response.ensures.text c.into_response.ensures.notes c.into_response.ensures.status (record { told_same = c.respond.ensures.told_stays; faults_same = c.in-Ok.ensures.faults_stay }) c.print.ensures

pub returns-in-Err-Refused : goal.returns-in-Err-Refused
returns-in-Err-Refused g c = λ words asked.
    let e = editing_of c.args.editing.now in
    let C : Stop → Type 0 = λ s. Explains (g.F.Files.told c.args.files.now) e s in
    let A : Stop → Type 0 = λ s. FaultsAs e (g.F.Files.faults c.args.files.now) (g.F.Files.faults c.respond.new.files) (g.F.Files.blame c.respond.new.files) (g.F.Files.act c.respond.new.files) s in
    with_refusal words e asked _ _ _ _ c.in-Err-Refused.refusal (subst C c.in-Err-Refused.field-0-is c.in-Err-Refused.ensures.cause)
    (record { told_same = c.respond.ensures.told_stays; faults_same = subst A c.in-Err-Refused.field-0-is c.in-Err-Refused.ensures.faults }) (record { got_same = refl; faults_same = refl })
    (c.say.ensures _ c.refusal.ensures)

pub returns-in-Err-Failed : goal.returns-in-Err-Failed
returns-in-Err-Failed g c = λ words asked.
    let e = editing_of c.args.editing.now in
    let C : Stop → Type 0 = λ s. Explains (g.F.Files.told c.args.files.now) e s in
    let A : Stop → Type 0 = λ s. FaultsAs e (g.F.Files.faults c.args.files.now) (g.F.Files.faults c.respond.new.files) (g.F.Files.blame c.respond.new.files) (g.F.Files.act c.respond.new.files) s in
    with_failure words e asked _ _ _ _ c.in-Err-Failed.file (subst C c.in-Err-Failed.field-0-is c.in-Err-Failed.ensures.cause)
    (subst A c.in-Err-Failed.field-0-is c.in-Err-Failed.ensures.faults) c.respond.ensures.told_stays (record { got_same = refl; faults_same = refl }) (c.say-in-Err-Failed.ensures _ c.failed.ensures)
