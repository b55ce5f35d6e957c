use Rattle.std.proofs.Common.{ℕ, ◌≡◌, map, take}
use Rattle.schema_tree.specs.declared.schema.Pair.{Pair}
use Rattle.typing_refiner.specs.Building.{AreWidths, is_within, wide_of}
use Rattle.typing_refiner.proofs.building.tell_widths.Given as goal

abbrev pub invariant-loop-pair : goal.invariant-loop-pair
invariant-loop-pair l = record {
  narrow : (width : Pair → ℕ) → AreWidths l.schema l.terms l.graph.triples width → l.narrow.items ≡ map (is_within width l.budget) (take l.pair-index l.pairs);
  wide : (width : Pair → ℕ) → AreWidths l.schema l.terms l.graph.triples width → l.wide.items ≡ wide_of width l.budget (take l.pair-index l.pairs);
}
