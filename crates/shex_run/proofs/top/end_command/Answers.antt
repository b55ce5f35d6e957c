use Rattle.std.proofs.Common.{refl}
use Rattle.command_words.specs.Lent.{command_of}
use Rattle.shex_run.proofs.Ended.{with_response, with_stop}
use Rattle.shex_run.proofs.top.end_command.Goals as goal

pub returns-in-Ok : goal.returns-in-Ok
returns-in-Ok g c = λ words asked.
    with_response words (command_of c.args.command.now) asked _ _ _ _ c.in-Ok.response.text.items c.in-Ok.response.notes.items c.in-Ok.response.status c.in-Ok.ensures.low c.in-Ok.ensures.response
    c.in-Ok.ensures.faults_stay c.print.ensures

pub returns-in-Err : goal.returns-in-Err
returns-in-Err g c = λ words asked.
    with_stop words (command_of c.args.command.now) asked _ _ _ _ c.in-Err.stop c.in-Err.ensures.cause c.in-Err.ensures.faults c.in-Err.ensures.stored (record { got_same = refl; faults_same = refl }) c.say_stop-status.ensures
