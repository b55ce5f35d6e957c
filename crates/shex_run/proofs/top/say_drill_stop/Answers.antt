use Rattle.std.proofs.Common.{subst, sym}
use Rattle.command_words.specs.Lent.{drill_of}
use Rattle.shex_run.specs.Printing.{SaysDrillStop}
use Rattle.shex_run.proofs.top.say_drill_stop.Goals as goal

pub returns-in-Failed : goal.returns-in-Failed
returns-in-Failed g c =
    subst (λ s. SaysDrillStop (drill_of c.args.drilling.now) s (record { got = g.S.Sink.got c.args.sink.now; got_after = g.S.Sink.got c.say.new.sink; faults = g.S.Sink.faults c.args.sink.now; faults_after = g.S.Sink.faults c.say.new.sink }) c.say.result)
    (sym c.in-Failed.is) (λ name named. c.say.ensures _ (c.unstored.ensures name named))
