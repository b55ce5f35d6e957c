-- The schema that documents stand for (ShEx 2.1, sections 5.1 to 5.5 and 5.7).
use Rattle.std.specs.Prelude.{ℕ, ◌+◌, ◌<◌, ◌≤◌, ◌≡◌, List, [], ◌∷◌, ◌++◌, Option, Some, None, length, map, slice_get, get_or, filter, take, nat_eq, if◌then◌else◌, zero, suc}
use Rattle.std.specs.List.{AllZip}
use Rattle.rdf_terms.specs.declared.terms.Term.{Term}
use Rattle.rdf_terms.specs.declared.terms.TermId.{TermId}
use Rattle.rdf_terms.specs.declared.terms.Term.TheVariants.{Iri}
use Rattle.tally.specs.declared.Bound.{Bound}
use Rattle.tally.specs.Plan.{Plan, Plans, each, is_once, many, more_plans, no_plans, one, sym}
use Rattle.schema_documents.specs.declared.label.Label.{Label}
use Rattle.schema_documents.specs.Tree.{Document, MaybeShapeExpr, no_expr, one_expr}
use Rattle.schema_tree.specs.declared.schema.Expr.{Expr}
use Rattle.schema_tree.specs.declared.schema.Expr.TheVariants as Exprs
use Rattle.schema_tree.specs.declared.schema.ExprId.{ExprId}
use Rattle.schema_tree.specs.declared.schema.Occurrence.{Occurrence}
use Rattle.schema_tree.specs.declared.schema.Schema.{Schema}
use Rattle.schema_tree.specs.declared.schema.Shape.{Shape}
use Rattle.schema_load.specs.declared.part.Part.{Part}
use Rattle.schema_load.specs.declared.part.Part.TheVariants as Parts
use Rattle.schema_load.specs.declared.part.ArcPart.{ArcPart}
use Rattle.schema_load.specs.declared.part.ShapePart.{ShapePart}
use Rattle.schema_load.specs.declared.part.TriplePart.{TriplePart}
use Rattle.schema_load.specs.declared.part.TripleForm.TheVariants.{Arc, Each, Include, One}
use Rattle.schema_load.specs.Reading.{parts_of, root_start}
use Rattle.schema_load.specs.Parts.{IsAt, IsNamed, declarations, is_entry, is_shape, places_where, shape_places}
use Rattle.schema_load.specs.Graph.{HasDepth, Resolves}
use Rattle.schema_load.specs.Requirements.{MeetsRequirements}

-- the cardinality of an expression; once and no more says nothing (ShEx 2.1, section 5.5)
abbrev pub times : ℕ → Bound → Plan → Plan
times min max plan = if is_once min max then plan else many min max plan

-- the number of the Shape at p: how many Shapes stand before it in reading order
abbrev pub shape_number : List Part → ℕ → ℕ
shape_number parts p = length (filter is_shape (take p parts))

-- the number of an IRI in the table of terms
abbrev pub IsTerm : List Term → List ℕ → TermId → Type 0
IsTerm terms iri id = slice_get terms id.0 ≡ Some (Iri iri)

-- `number` gives each place the number of the entry of the shape expression there
module _ (terms : List Term) (parts : List Part) (number : ℕ → ExprId) where
  -- the entry of the part at p; its members are named by their numbers (ShEx 2.1, section 5.3)
  abbrev pub IsEntryOf : ℕ → Part → Expr → Type 0
  IsEntryOf p (Parts.And ps) x = x ≡ Exprs.And (map number ps)
  IsEntryOf p (Parts.Or ps) x = x ≡ Exprs.Or (map number ps)
  IsEntryOf p (Parts.Not q) x = x ≡ Exprs.Not (number q)
  IsEntryOf p (Parts.Node c) x = x ≡ Exprs.Node c
  IsEntryOf p (Parts.Shape s) x = x ≡ Exprs.Shape (record { 0 = shape_number parts p })
  IsEntryOf p _ x = ⊥

  -- the entry of the expression at p
  abbrev pub IsEntryAt : ℕ → Expr → Type 0
  IsEntryAt p x = (part : Part) × IsAt parts p part × IsEntryOf p part x

  -- the value of an occurrence is the entry of the value expression, if there is one
  abbrev pub IsValue : Option ℕ → Option ExprId → Type 0
  IsValue None v = v ≡ None
  IsValue (Some q) v = v ≡ Some (number q)

  -- the occurrence is one of the TripleConstraint (ShEx 2.1, section 5.5)
  pub record IsOccurrence (a : ArcPart) (o : Occurrence) : Type 0 where
    pub inverse : o.inverse ≡ a.inverse
    pub predicate : IsTerm terms a.predicate o.predicate
    pub value : IsValue a.value o.value

  mutual
    -- The triple expression at p, inclusions unfolded, is the plan over the occurrences, whose numbers begin with k
    -- (ShEx 2.1, section 5.5). An inclusion stands for the expression of its label.
    pub data Unfolds : ℕ → ℕ → Plan → List Occurrence → Type 0 where
      arc : {p k : ℕ} {t : TriplePart} {a : ArcPart} {o : Occurrence} → IsAt parts p (Parts.Triple t) → t.form ≡ Arc a → IsOccurrence a o
          → Unfolds p k (times t.min t.max (sym k)) (o ∷ [])
      each_of : {p k : ℕ} {t : TriplePart} {ps : List ℕ} {plans : Plans} {occs : List Occurrence} → IsAt parts p (Parts.Triple t) → t.form ≡ Each ps → UnfoldAll ps k plans occs
          → Unfolds p k (times t.min t.max (each plans)) occs
      one_of : {p k : ℕ} {t : TriplePart} {ps : List ℕ} {plans : Plans} {occs : List Occurrence} → IsAt parts p (Parts.Triple t) → t.form ≡ One ps → UnfoldAll ps k plans occs
          → Unfolds p k (times t.min t.max (one plans)) occs
      included : {p q k : ℕ} {t : TriplePart} {l : Label} {plan : Plan} {occs : List Occurrence} → IsAt parts p (Parts.Triple t) → t.form ≡ Include l → IsNamed parts l q → Unfolds q k plan occs
          → Unfolds p k (times t.min t.max plan) occs

    -- members one after the other stand for these plans and occurrences
    pub data UnfoldAll : List ℕ → ℕ → Plans → List Occurrence → Type 0 where
      none : {k : ℕ} → UnfoldAll [] k no_plans []
      more : {p k : ℕ} {ps : List ℕ} {plan : Plan} {plans : Plans} {occs rest : List Occurrence} → Unfolds p k plan occs → UnfoldAll ps (k + length occs) plans rest
          → UnfoldAll (p ∷ ps) k (more_plans plan plans) (occs ++ rest)

  -- the body and the occurrences are those of the triple expression, if there is one
  abbrev pub IsBody : Option ℕ → Option Plan → List Occurrence → Type 0
  IsBody None None occs = occs ≡ []
  IsBody (Some p) (Some body) occs = Unfolds p 0 body occs
  IsBody _ _ occs = ⊥

  -- the Shape is that of the part at p (ShEx 2.1, section 5.5)
  pub record IsShapeAt (p : ℕ) (s : Shape) : Type 0 where
    pub head : ShapePart
    pub here : IsAt parts p (Parts.Shape head)
    pub closed : s.closed ≡ head.closed
    pub extra : AllZip (IsTerm terms) head.extra s.extra
    pub body : IsBody head.body s.body s.occs

-- the places of the entries of one depth in reading order
abbrev pub of_depth : List Part → List ℕ → ℕ → List ℕ
of_depth parts depths d = filter (λ p. nat_eq (get_or depths p 0) d) (places_where is_entry 0 parts)

-- the places of the entries up to the depth: those of depth 1 in reading order, then those of depth 2, and so on (own)
unfoldable pub entry_places : List Part → List ℕ → ℕ → List ℕ
entry_places parts depths zero = []
entry_places parts depths (suc d) = entry_places parts depths d ++ of_depth parts depths (suc d)

-- the start is that of the first document, if it has one: the expression behind the head at place 0 (ShEx 2.1, section 5.1)
abbrev pub IsStart : (ℕ → ExprId) → MaybeShapeExpr → Option ExprId → Type 0
IsStart number no_expr start = start ≡ None
IsStart number (one_expr e) start = start ≡ Some (number 1)

-- the schema stands for the documents, of which the first is the root, in the numbers of the terms
pub record Stands (docs : List Document) (terms : List Term) (s : Schema) : Type 0 where
  pub meets : MeetsRequirements (parts_of docs)
  -- the depth of the part at each place
  pub depths : List ℕ
  pub deep : (p : ℕ) → p < length (parts_of docs) → HasDepth (parts_of docs) p (get_or depths p 0)
  -- one entry for each expression, in the order of depths; the number of an expression is that of its entry
  pub number : ℕ → ExprId
  pub numbered : (i p : ℕ) → slice_get (entry_places (parts_of docs) depths 256) i ≡ Some p → (number p).0 ≡ i
  pub exprs : AllZip (IsEntryAt terms (parts_of docs) number) (entry_places (parts_of docs) depths 256) s.exprs
  pub few : length s.exprs ≤ 4294967295
  -- a reference has the number of the expression to which it leads
  pub referred : (p : ℕ) (l : Label) → IsAt (parts_of docs) p (Parts.Ref l) → (q : ℕ) × Resolves (parts_of docs) p q × (number p ≡ number q)
  -- the Shapes in reading order
  pub shapes : AllZip (IsShapeAt terms (parts_of docs) number) (shape_places (parts_of docs)) s.shapes
  -- the labels in reading order
  pub labels : s.labels ≡ map (λ d. (d.0, number d.1)) (declarations 0 (parts_of docs))
  pub start : IsStart number (root_start docs) s.start
