-- How the expressions and Shapes of a schema are named (own): by a label, by START, or by the way from one of these.
use Rattle.std.specs.Prelude.{ℕ, suc, List, [], ◌++◌, ◌≡◌, ◌<◌, ◌⊎◌, Option, Some, Contains, codes, length, slice_get}
use Rattle.std.specs.Fmt.{decimal}
use Rattle.std.specs.List.{AllByRecursion}
use Rattle.rdf_terms.specs.declared.terms.Term.{Term}
use Rattle.schema_documents.specs.declared.label.Label.{Label}
use Rattle.schema_documents.specs.Labels.{label_text}
use Rattle.schema_tree.specs.declared.schema.Expr.{Expr}
use Rattle.schema_tree.specs.declared.schema.Expr.TheVariants as Exprs
use Rattle.schema_tree.specs.declared.schema.ExprId.{ExprId}
use Rattle.schema_tree.specs.declared.schema.Occurrence.{Occurrence}
use Rattle.schema_tree.specs.declared.schema.Schema.{Schema}
use Rattle.schema_tree.specs.declared.schema.Shape.{Shape}
use Rattle.schema_tree.specs.declared.schema.ShapeId.{ShapeId}
use Rattle.schema_tree.specs.Entries.{entry, shape_at}
use Rattle.explanation_texts.specs.declared.names.Named.{Named}
use Rattle.explanation_texts.specs.declared.names.Names.{Names}
use Rattle.explanation_texts.specs.Words.{constraint_text}

-- the name of a part: that of the whole, a slash, and the step to the part
abbrev pub part_name : List ℕ → List ℕ → List ℕ
part_name whole step = whole ++ (codes "/" ++ step)

-- the part of this number of an expression: a member of a ShapeAnd or of a ShapeOr, or the member of a ShapeNot
abbrev pub IsPartOf : Option Expr → ℕ → ExprId → Type 0
IsPartOf (Some (Exprs.And es)) k e = slice_get es k ≡ Some e
IsPartOf (Some (Exprs.Or es)) k e = slice_get es k ≡ Some e
IsPartOf (Some (Exprs.Not d)) k e = (k ≡ 0) × (d ≡ e)
IsPartOf x k e = ⊥

-- the occurrences are those of the Shape that the expression is
abbrev pub AreOccsOf : Schema → ExprId → List Occurrence → Type 0
AreOccsOf s d occs = (i : ShapeId) × (sh : Shape) × (entry s d ≡ Some (Exprs.Shape i)) × (shape_at s i ≡ Some sh) × (sh.occs ≡ occs)

-- the name of an expression: its label, START, or the way to it through parts, which are numbered from 1 on, and values of triple
-- constraints
pub data IsName (s : Schema) (terms : List Term) : ExprId → List ℕ → Type 0 where
  labelled : {e : ExprId} {name : List ℕ} (l : Label) → Contains s.labels (l, e) → name ≡ label_text l → IsName s terms e name
  starting : {e : ExprId} {name : List ℕ} → s.start ≡ Some e → name ≡ codes "START" → IsName s terms e name
  inside : {e : ExprId} {name : List ℕ} (d : ExprId) (whole : List ℕ) (k : ℕ) → IsName s terms d whole → IsPartOf (entry s d) k e →
      name ≡ part_name whole (decimal (suc k)) → IsName s terms e name
  valued : {e : ExprId} {name : List ℕ} (d : ExprId) (whole : List ℕ) (occs : List Occurrence) (k : ℕ) (o : Occurrence) →
      IsName s terms d whole → AreOccsOf s d occs → slice_get occs k ≡ Some o → o.value ≡ Some e →
      name ≡ part_name whole (constraint_text terms occs k) → IsName s terms e name

-- each name that is not empty is one of its expression
abbrev pub AreExprNames : Schema → List Term → List (List ℕ) → Type 0
AreExprNames s terms names = (e : ExprId) (name : List ℕ) → slice_get names e.0 ≡ Some name → 0 < length name → IsName s terms e name

-- each name that is not empty is one of an expression that is the Shape
abbrev pub AreShapeNames : Schema → List Term → List (List ℕ) → Type 0
AreShapeNames s terms names =
    (i : ShapeId) (name : List ℕ) → slice_get names i.0 ≡ Some name → 0 < length name →
    (e : ExprId) × (entry s e ≡ Some (Exprs.Shape i)) × IsName s terms e name

-- the names of a schema
pub record AreNames (s : Schema) (terms : List Term) (names : Names) : Type 0 where
  pub exprs : AreExprNames s terms names.exprs
  pub shapes : AreShapeNames s terms names.shapes

-- so far found
pub record HaveNames (s : Schema) (terms : List Term) (named : Named) : Type 0 where
  pub exprs : AreExprNames s terms named.exprs.items
  pub shapes : AreShapeNames s terms named.shapes.items

-- no other name is given than this to what has this number
abbrev pub IsGiven : List (List ℕ) → ℕ → List ℕ → List (List ℕ) → Type 0
IsGiven old k name new = (i : ℕ) (x : List ℕ) → slice_get new i ≡ Some x → (slice_get old i ≡ Some x) ⊎ ((i ≡ k) × (x ≡ name))

-- all names are empty
abbrev pub AreEmpty : List (List ℕ) → Type 0
AreEmpty names = AllByRecursion (λ name. name ≡ []) names
