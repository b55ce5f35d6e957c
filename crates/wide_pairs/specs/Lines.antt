-- The lines for pairs whose Width is above a budget.
use Rattle.std.specs.Prelude.{ℕ, List, ◌++◌, codes}
use Rattle.std.specs.Fmt.{decimal}
use Rattle.std.specs.List.{flat_map}
use Rattle.rdf_terms.specs.Order.{text_at}
use Rattle.rdf_terms.specs.declared.terms.Term.{Term}
use Rattle.typing_refiner.specs.declared.building.WidePair.{WidePair}

-- the line for a pair whose Width is above the budget: its node, the number of its Shape, its Width, or the greatest number of 64
-- bits where that is less, and the budget
abbrev pub wide_line : List Term → ℕ → WidePair → List ℕ
wide_line terms budget w =
    codes "wide " ++ (text_at terms w.pair.node ++ (codes " #" ++ (decimal w.pair.shape.0 ++ (codes " width " ++ (decimal w.width ++ (codes " budget " ++ (decimal budget ++ codes "\n")))))))

-- the lines for such pairs, in their order
abbrev pub wide_lines : List Term → ℕ → List WidePair → List ℕ
wide_lines terms budget ws = flat_map (wide_line terms budget) ws
