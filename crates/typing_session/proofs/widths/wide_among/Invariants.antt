use Rattle.std.proofs.Common.{ℕ, ◌≡◌, take}
use Rattle.schema_tree.specs.declared.schema.Pair.{Pair}
use Rattle.typing_refiner.specs.Building.{AreWidths, wide_of}
use Rattle.typing_session.proofs.widths.wide_among.Given as goal

abbrev pub invariant-loop-pair : goal.invariant-loop-pair
invariant-loop-pair l = (width : Pair → ℕ) → AreWidths l.schema l.terms l.graph.triples width → l.wide.items ≡ wide_of width l.budget (take l.pair-index l.pairs)
