use Rattle.std.proofs.Common.{◌≤◌, length}
use Rattle.std.specs.Io.KnownBytes.{Consumes}
use Rattle.shex_io.proofs.host.read_within.Given as goal

abbrev pub invariant-loop-turn : goal.invariant-loop-turn
invariant-loop-turn g l = record {
  in_order : Consumes (g.S.Read.remaining l.initial.source) (g.S.Read.remaining l.source) l.bytes.items;
  turns : l._turn ≤ length l.bytes.items;
}
