use Rattle.std.proofs.Common.{take}
use Rattle.label_extents.proofs.Gathered.{AreMet}
use Rattle.label_extents.proofs.nodes.nodes_in.Given as goal

abbrev pub invariant-loop-triple : goal.invariant-loop-triple
invariant-loop-triple l = AreMet (take l.triple-index l.triples) l.nodes.keys
