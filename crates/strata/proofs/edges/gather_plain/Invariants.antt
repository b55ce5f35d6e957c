use Rattle.std.proofs.Common.{◌⊎◌, false, true, length}
use Rattle.agenda.proofs.Bounds.{above}
use Rattle.strata.specs.Gathers.{AreBelow, FromEntry, FromSome}
use Rattle.strata.proofs.Opened.{Owes}
use Rattle.strata.proofs.edges.gather_plain.Given as goal

abbrev pub invariant-loop-next : goal.invariant-loop-next
invariant-loop-next l = record {
  owes : Owes (FromEntry l.s l.from false l.fn.e) (λ a. FromSome l.s l.from false l.agenda a ⊎ FromSome l.s l.from true l.negated a) l.fn.arcs.items l.arcs.items;
  below : AreBelow (length l.s.exprs) l.agenda;
  there : AreBelow (length l.s.exprs) l.negated;
}

abbrev pub decreases-loop-next : goal.decreases-loop-next
decreases-loop-next l = above l.agenda
