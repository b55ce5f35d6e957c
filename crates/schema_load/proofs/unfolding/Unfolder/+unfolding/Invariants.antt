use Rattle.std.proofs.Common.{◌+◌, ◌*◌, drop, get_or, length, take}
use Rattle.schema_load.specs.Building.{number_in}
use Rattle.schema_load.specs.Unfolding.{HaveRoom}
use Rattle.schema_load.proofs.Unfolded.{IsSoFar}
use Rattle.schema_load.proofs.unfolding.Unfolder.+unfolding.Given as goal

abbrev pub decreases-unfold : goal.decreases-unfold
decreases-unfold l = 3 * get_or l.self.now.depths.now l.place 0 + 2

abbrev pub decreases-unfold_form : goal.decreases-unfold_form
decreases-unfold_form l = 3 * get_or l.self.now.depths.now l.place 0 + 1

abbrev pub decreases-unfold_members : goal.decreases-unfold_members
decreases-unfold_members l = 3 * get_or l.self.now.depths.now l.place 0

abbrev pub invariant-unfold_members-loop-member : goal.invariant-unfold_members-loop-member
invariant-unfold_members-loop-member l = record {
  so_far : IsSoFar l.self.terms.now l.self.parts.now (number_in l.self.numbers.now) (take l.member-index l.members) l.fn.occs.items l.occs.items l.counts.items;
  room : HaveRoom l.self.parts.now (drop l.member-index l.members) (length l.occs.items);
}
