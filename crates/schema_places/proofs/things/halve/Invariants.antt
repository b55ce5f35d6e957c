use Rattle.std.proofs.Common.{◌≤◌, ◌<◌, ◌-◌, length, take}
use Rattle.schema_places.specs.Edges.{IsOtherwise, IsRefusedFor}
use Rattle.schema_places.proofs.things.halve.Given as goal

abbrev pub invariant-loop-refused : goal.invariant-loop-refused
invariant-loop-refused l =
    (l.size < l.refused)
    × (l.refused ≤ length l.fn.source)
    × IsOtherwise l.fn.base l.fn.thing (take l.size l.fn.source) l.place
    × IsRefusedFor l.fn.base l.fn.thing (take l.refused l.fn.source)

abbrev pub decreases-loop-refused : goal.decreases-loop-refused
decreases-loop-refused l = l.refused - l.size
