-- A table that takes more terms (own).
use Rattle.std.specs.Prelude.{ℕ, List, ◌++◌, ◌<◌, All, Contains, length}
use Rattle.graph_index.specs.Contents.{Contents, IsSealedWith}
use Rattle.graph_index.specs.Laws.{IsOfTable}
use Rattle.lists.specs.Distinct.{AreDistinct}
use Rattle.locality_laws.specs.Local.{IsVerdict}
use Rattle.rdf_terms.specs.declared.terms.Term.{Term}
use Rattle.schema_tree.specs.declared.schema.Pair.{Pair}
use Rattle.schema_tree.specs.declared.schema.Schema.{Schema}
use Rattle.schema_tree.specs.declared.verdicts.Verdict.{Verdict}
use Rattle.schema_tree.specs.Loaded.{IsLoaded}
use Rattle.schema_tree.specs.Needs.{HoldNeeds}

-- pairs of the table that have all that they need have the same verdicts when the table takes more terms
abbrev pub VerdictsOutliveGrowth : Type 0
VerdictsOutliveGrowth =
    (s : Schema) (terms behind : List Term) (g : Contents) (f : List ℕ) (budget : ℕ) → IsLoaded s → IsSealedWith terms g → All (IsOfTable terms) g.triples →
    (pairs : List Pair) → AreDistinct pairs → HoldNeeds s g.triples pairs → ((q : Pair) → Contains pairs q → q.node.0 < length terms) →
    (p : Pair) → Contains pairs p → (v : Verdict) →
    IsVerdict s terms g.triples f budget p v → IsVerdict s (terms ++ behind) g.triples f budget p v
