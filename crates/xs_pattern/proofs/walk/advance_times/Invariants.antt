use Rattle.std.proofs.Common.{◌≡◌, ◌+◌, ◌++◌, drop}
use Rattle.std.specs.Prelude.{vec_len}
use Rattle.xs_pattern.specs.Way.{next_times}
use Rattle.xs_pattern.proofs.TimesWay.{entered_at}
use Rattle.xs_pattern.proofs.walk.advance_times.Given as goal

abbrev pub invariant-loop-i : goal.invariant-loop-i
invariant-loop-i l = record {
  marks : l.behind.items ≡ l.initial.behind.items ++ next_times l.has l.i l.enters (drop (vec_len l.initial.behind) l.marks);
  entered : l.entered ≡ entered_at l.enters (drop (vec_len l.initial.behind) l.marks) l.i;
  counted : vec_len l.behind ≡ vec_len l.initial.behind + l.i;
}
