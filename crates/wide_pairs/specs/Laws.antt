-- Law of wide pairs, which callers' proofs stand on (own).
use Rattle.std.specs.Prelude.{ℕ, List, [], ◌≡◌, ◌-◌, ◌^◌, ◌<◌, Contains}
use Rattle.rdf_terms.specs.declared.terms.Term.{Term}
use Rattle.rdf_terms.specs.declared.terms.Triple.{Triple}
use Rattle.schema_tree.specs.declared.schema.Pair.{Pair}
use Rattle.schema_tree.specs.declared.schema.Schema.{Schema}
use Rattle.schema_tree.specs.Width.{IsWithinWidth}
use Rattle.typing_refiner.specs.declared.building.WidePair.{WidePair}
use Rattle.wide_pairs.specs.Lines.{wide_lines}
use Rattle.wide_pairs.specs.Wide.{AreWide}

-- where there is no line for a wide pair, the Width of each pair is within the budget
abbrev pub NoneIsWide : Type 0
NoneIsWide =
    (s : Schema) (terms : List Term) (g : List Triple) (budget : ℕ) (pairs : List Pair) (wide : List WidePair) → budget < 2 ^ 64 - 1 →
    AreWide s terms g budget pairs wide → wide_lines terms budget wide ≡ [] → (p : Pair) → Contains pairs p → IsWithinWidth s terms g budget p
