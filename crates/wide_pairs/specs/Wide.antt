-- The pairs that are too wide to be looked into (own).
use Rattle.std.specs.Prelude.{ℕ, List, ◌≡◌}
use Rattle.rdf_terms.specs.declared.terms.Term.{Term}
use Rattle.rdf_terms.specs.declared.terms.Triple.{Triple}
use Rattle.schema_tree.specs.declared.schema.Pair.{Pair}
use Rattle.schema_tree.specs.declared.schema.Schema.{Schema}
use Rattle.typing_refiner.specs.Building.{AreWidths, wide_of}
use Rattle.typing_refiner.specs.declared.building.WidePair.{WidePair}

-- these are the pairs whose Width is above the budget, in their order, each with its Width, or with 18,446,744,073,709,551,615
-- where that is greater
abbrev pub AreWide : Schema → List Term → List Triple → ℕ → List Pair → List WidePair → Type 0
AreWide s terms g budget pairs wide = (width : Pair → ℕ) → AreWidths s terms g width → wide ≡ wide_of width budget pairs
