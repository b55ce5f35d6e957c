use Rattle.std.proofs.Common.{take}
use Rattle.schema_load.specs.Groups.{AreNumbers}
use Rattle.schema_load.proofs.groups.numbers_of.Given as goal

abbrev pub invariant-loop-standing : goal.invariant-loop-standing
invariant-loop-standing l = AreNumbers (take l.standing-index l.standings) l.groups.items
