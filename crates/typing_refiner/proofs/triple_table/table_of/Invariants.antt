use Rattle.std.proofs.Common.{◌≡◌, take}
use Rattle.typing_refiner.proofs.triple_table.table_of.Given as goal

abbrev pub invariant-loop-i : goal.invariant-loop-i
invariant-loop-i l = l.table ≡ take l.i l.triples
