-- When a node has a Shape under a typing (ShEx 2.1, section 5.5.2, `satisfies` for a Shape).
use Rattle.std.specs.Prelude.{true, false, List, [], ◌∷◌, Option, Some, None, ◌≡◌, Contains}
use Rattle.rdf_terms.specs.declared.terms.TermId.{TermId}
use Rattle.rdf_terms.specs.declared.terms.Term.{Term}
use Rattle.rdf_terms.specs.declared.terms.Triple.{Triple}
use Rattle.rdf_terms.specs.Graphs.{neigh}
use Rattle.tally.specs.Plan.{Plan}
use Rattle.schema_tree.specs.declared.schema.Occurrence.{Occurrence}
use Rattle.schema_tree.specs.declared.schema.Schema.{Schema}
use Rattle.schema_tree.specs.declared.schema.Shape.{Shape}
use Rattle.schema_tree.specs.declared.schema.ShapeId.{ShapeId}
use Rattle.schema_tree.specs.declared.schema.ExprId.{ExprId}
use Rattle.schema_tree.specs.declared.schema.Pair.{Pair}
use Rattle.schema_tree.specs.Entries.{shape_at}
use Rattle.schema_tree.specs.Satisfies.{Sat}
use Rattle.schema_tree.specs.Matches.{Deals, Matches, Takes}

-- the predicate stands in an occurrence that is not inverse
abbrev pub IsMentioned : List Occurrence → TermId → Type 0
IsMentioned occs p = (o : Occurrence) × Contains occs o × (o.inverse ≡ false) × (o.predicate ≡ p)

-- the triple is a matchable: an arc out of n whose predicate stands in an occurrence that is not inverse
abbrev pub IsMatchable : List Occurrence → TermId → Triple → Type 0
IsMatchable occs n t = (t.s ≡ n) × IsMentioned occs t.p

-- the matched part matches the expression, or is empty where there is none
abbrev pub MatchesBody : (TermId → ExprId → Type 0) → List Occurrence → TermId → Option Plan → List Triple → Type 0
MatchesBody sat occs n None ts = ts ≡ []
MatchesBody sat occs n (Some c) ts = Matches sat occs n c ts

-- what the remainder has to meet: no matchable in it matches an occurrence that is not inverse, the predicate of every
-- matchable in it is in extra, and where the Shape is closed every arc out in it is a matchable
pub record RestOk (sat : TermId → ExprId → Type 0) (sh : Shape) (n : TermId) (rest : List Triple) : Type 0 where
  pub unmatched : (t : Triple) (o : Occurrence) → Contains rest t → IsMatchable sh.occs n t → Contains sh.occs o → o.inverse ≡ false → ¬ Takes sat n (Some o) t
  pub in_extra : (t : Triple) → Contains rest t → IsMatchable sh.occs n t → Contains sh.extra t.p
  pub in_closed : sh.closed ≡ true → (t : Triple) → Contains rest t → t.s ≡ n → IsMatchable sh.occs n t

-- n has the Shape, where sat says what a node satisfies: its neighbourhood is dealt into a matched part and a remainder
abbrev pub ShapeHolds : (TermId → ExprId → Type 0) → List Triple → TermId → Option Shape → Type 0
ShapeHolds sat g n None = ⊥
ShapeHolds sat g n (Some sh) =
    (matched rest : List Triple) × Deals (neigh g n) (matched ∷ rest ∷ []) × MatchesBody sat sh.occs n sh.body matched × RestOk sat sh n rest

-- n has the Shape of number i under the typing T
abbrev pub ShapeOk : Schema → List Term → List Triple → List Pair → TermId → ShapeId → Type 0
ShapeOk s terms g T n i = ShapeHolds (Sat s terms T) g n (shape_at s i)
