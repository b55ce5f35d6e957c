use Rattle.std.proofs.Common.{refl}
use Rattle.command_words.specs.Lent.{drill_of}
use Rattle.shex_run.proofs.Drilled.{with_line, with_stop}
use Rattle.shex_run.proofs.top.end_drill.Goals as goal

pub returns-in-Ok : goal.returns-in-Ok
returns-in-Ok g c = λ words is_drill.
    with_line words (drill_of c.args.drilling.now) is_drill _ _ _ _ c.in-Ok.response.text.items c.in-Ok.response.notes.items c.in-Ok.response.status c.in-Ok.ensures.response c.in-Ok.ensures.faults_stay c.print.ensures

pub returns-in-Err : goal.returns-in-Err
returns-in-Err g c = λ words is_drill.
    with_stop words (drill_of c.args.drilling.now) is_drill _ _ _ _ c.in-Err.stop c.in-Err.ensures.stops (record { got_same = refl; faults_same = refl }) c.say_drill_stop-status.ensures
