use Rattle.std.proofs.Common.{◌+◌, length}
use Rattle.schema_load.specs.Groups.{IsWalking, unseen}
use Rattle.schema_load.proofs.groups.groups_of.Given as goal

abbrev pub invariant-loop-visit : goal.invariant-loop-visit
invariant-loop-visit l = IsWalking l.parts l.targets l.walk l.visits.items

abbrev pub decreases-loop-visit : goal.decreases-loop-visit
decreases-loop-visit l = length l.visits.items + unseen l.parts l.targets l.walk.standings.items
