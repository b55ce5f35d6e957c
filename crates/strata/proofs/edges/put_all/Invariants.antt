use Rattle.std.proofs.Common.{map, take}
use Rattle.strata.specs.Gathers.{Has}
use Rattle.strata.proofs.edges.put_all.Given as goal

abbrev pub invariant-loop-member : goal.invariant-loop-member
invariant-loop-member l = Has l.initial.agenda (map (λ d. d.0) (take l.member-index l.members)) l.agenda
