use Rattle.agenda.proofs.Bounds.{above}
use Rattle.demand.proofs.Opened.{Found}
use Rattle.demand.proofs.links.shapes_in.Given as goal

abbrev pub invariant-loop-next : goal.invariant-loop-next
invariant-loop-next l = Found l.schema l.fn.expr l.agenda l.shapes.keys

abbrev pub decreases-loop-next : goal.decreases-loop-next
decreases-loop-next l = above l.agenda
