-- A refinement as contracts see it (own).
use Rattle.std.specs.Prelude.{List}
use Rattle.rdf_terms.specs.declared.terms.TermId.{TermId}
use Rattle.schema_tree.specs.declared.schema.Pair.{Pair}
use Rattle.schema_tree.specs.declared.verdicts.Verdict.{Verdict}
use Rattle.schema_tree.specs.Sure.{Known}
use Rattle.proof_file.specs.declared.Section.{Section}
use Rattle.typing_refiner.specs.declared.building.WidePair.{WidePair}
use Rattle.typing_refiner.specs.Refined.{verdicts_of}

-- the pairs with their verdicts beside them, the pairs whose Width is above the budget, and the records with the nodes that
-- they count
pub record Refinement : Type 0 where
  pub pairs : List Pair
  pub marks : List Verdict
  pub wide : List WidePair
  pub nodes : List TermId
  pub sections : List Section

-- what is known by it
abbrev pub known_by_it : Refinement → Known
known_by_it r = verdicts_of r.pairs r.marks
