use Rattle.std.proofs.Common.{true, length}
use Rattle.agenda.proofs.Bounds.{above}
use Rattle.strata.specs.Gathers.{AreBelow, FromSome}
use Rattle.strata.proofs.Opened.{Owes}
use Rattle.strata.proofs.edges.gather_negative.Given as goal

abbrev pub invariant-loop-next : goal.invariant-loop-next
invariant-loop-next l = record {
  owes : Owes (FromSome l.s l.from true l.initial.agenda) (FromSome l.s l.from true l.agenda) l.fn.arcs.items l.arcs.items;
  below : AreBelow (length l.s.exprs) l.agenda;
}

abbrev pub decreases-loop-next : goal.decreases-loop-next
decreases-loop-next l = above l.agenda
