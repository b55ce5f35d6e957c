use Rattle.std.proofs.Common.{length, ◌-◌, ◌≡◌, ◌≤◌, take}
use Rattle.shex_io.specs.Sinks.{Gains}
use Rattle.shex_io.proofs.sinks.put_all.Given as goal

abbrev pub invariant-loop-at : goal.invariant-loop-at
invariant-loop-at g l = record {
  within : l.at ≤ length l.bytes;
  gained : Gains (g.S.Sink.got l.initial.sink) (g.S.Sink.got l.sink) (take l.at l.bytes);
  faults_stay : g.S.Sink.faults l.sink ≡ g.S.Sink.faults l.initial.sink;
}

abbrev pub decreases-loop-at : goal.decreases-loop-at
decreases-loop-at g l = length l.bytes - l.at
