-- What a session keeps true whatever it is told and asked (own).
use Rattle.std.specs.Prelude.{ℕ, List, ◌≡◌, ◌<◌, ◌-◌, ◌^◌, ◌↔◌, ◌⊎◌, All, Contains, Some, length}
use Rattle.rdf_terms.specs.declared.terms.Term.{Term}
use Rattle.rdf_terms.specs.declared.terms.Triple.{Triple}
use Rattle.graph_index.specs.Contents.{Contents, IsSealedWith}
use Rattle.graph_index.specs.Laws.{IsOfTable}
use Rattle.locality_laws.specs.Local.{IsVerdict}
use Rattle.schema_tree.specs.declared.schema.Pair.{Pair}
use Rattle.schema_tree.specs.declared.schema.Schema.{Schema}
use Rattle.schema_tree.specs.declared.verdicts.Verdict.{Verdict}
use Rattle.schema_tree.specs.Edges.{IsStratified}
use Rattle.schema_tree.specs.Loaded.{IsLoaded}
use Rattle.schema_tree.specs.Needs.{HoldNeeds}
use Rattle.typing_session.specs.Kept.{Begins, kept_on, pairs_of}

-- the schema is loaded and stratified, and the budget is in its range
pub record IsReady (s : Schema) (f : List ℕ) (budget : ℕ) : Type 0 where
  pub loaded : IsLoaded s
  pub stratified : IsStratified s f
  pub range : budget < 2 ^ 64 - 1

-- the graph's triples are of the table, with which it is sealed
pub record IsHeld (terms : List Term) (g : Contents) : Type 0 where
  pub sealed : IsSealedWith terms g
  pub ends : All (IsOfTable terms) g.triples

-- the node is of the table, and the Shape of the schema
pub record IsOfBoth (s : Schema) (terms : List Term) (p : Pair) : Type 0 where
  pub node : p.node.0 < length terms
  pub shape : p.shape.0 < length s.shapes

-- of the pairs that are kept each has the verdict that refinement gives it over the graph as it is, and all that they need is
-- kept
pub record AreSound (s : Schema) (terms : List Term) (g : Contents) (f : List ℕ) (budget : ℕ) (entries : List (Pair × Verdict)) : Type 0 where
  pub of_both : (p : Pair) → Contains (pairs_of entries) p → IsOfBoth s terms p
  pub closed : HoldNeeds s g.triples (pairs_of entries)
  pub verdicts : (p : Pair) (v : Verdict) → kept_on entries p ≡ Some v → IsVerdict s terms g.triples f budget p v

-- the pairs go last, and each that is kept then has its verdict
pub record AreKeptFor (s : Schema) (terms : List Term) (g : List Triple) (f : List ℕ) (budget : ℕ) (pairs : List Pair) (old new : List (Pair × Verdict)) : Type 0 where
  pub begins : Begins old new
  pub pairs_are : (q : Pair) → Contains (pairs_of new) q ↔ (Contains (pairs_of old) q ⊎ Contains pairs q)
  pub verdicts : (p : Pair) (v : Verdict) → kept_on new p ≡ Some v → IsVerdict s terms g f budget p v

-- each that is kept has its verdict
abbrev pub HaveVerdicts : Schema → List Term → List Triple → List ℕ → ℕ → List (Pair × Verdict) → Type 0
HaveVerdicts s terms g f budget entries = (p : Pair) (v : Verdict) → kept_on entries p ≡ Some v → IsVerdict s terms g f budget p v
