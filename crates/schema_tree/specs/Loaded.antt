-- What every loaded schema keeps (ShEx 2.1, section 5.7, schema requirements).
use Rattle.std.specs.Prelude.{ℕ, true, List, ◌<◌, ◌≤◌, ◌≡◌, length, Option, Some, None, Contains, ⊤}
use Rattle.tally.specs.Plan.{Plan}
use Rattle.tally.specs.Symbols.{has_symbol, IsDistinct}
use Rattle.tally.specs.Span.{IsSound}
use Rattle.schema_tree.specs.declared.schema.Schema.{Schema}
use Rattle.schema_tree.specs.declared.schema.Shape.{Shape}
use Rattle.schema_tree.specs.declared.schema.ShapeId.{ShapeId}
use Rattle.schema_tree.specs.declared.schema.Occurrence.{Occurrence}
use Rattle.schema_tree.specs.declared.schema.ExprId.{ExprId}
use Rattle.schema_tree.specs.declared.schema.Expr.{Expr}
use Rattle.schema_tree.specs.declared.schema.Expr.TheVariants.{And, Or, Not, Node, Shape as shape_of}
use Rattle.lists.specs.Distinct.{AreDistinct}
use Rattle.schema_tree.specs.Labels.{labels_of}
use Rattle.schema_documents.specs.declared.label.Label.{Label}
use Rattle.schema_tree.specs.declared.schema.Target.{Target}
use Rattle.schema_tree.specs.declared.schema.Target.TheVariants as Targets
use Rattle.schema_tree.specs.Entries.{entry, shape_at}

-- the number of an entry that is there
abbrev pub IsEntry : Schema → ExprId → Type 0
IsEntry s e = e.0 < length s.exprs

-- the number of an entry that is there, if one is given
abbrev pub IsEntryIfAny : Schema → Option ExprId → Type 0
IsEntryIfAny s None = ⊤
IsEntryIfAny s (Some e) = IsEntry s e

-- the entry of number i refers to smaller entries and to Shapes that are there
abbrev pub RefersBelow : Schema → ℕ → Expr → Type 0
RefersBelow s i (And es) = (e : ExprId) → Contains es e → e.0 < i
RefersBelow s i (Or es) = (e : ExprId) → Contains es e → e.0 < i
RefersBelow s i (Not e) = e.0 < i
RefersBelow s i (Node c) = ⊤
RefersBelow s i (shape_of j) = j.0 < length s.shapes

-- the body has each symbol once, no minimum above its bound, and exactly the numbers of the occurrences; without one there are none
abbrev pub BodyOk : List Occurrence → Option Plan → Type 0
BodyOk occs None = length occs ≡ 0
BodyOk occs (Some c) =
    IsDistinct c × IsSound c
    × ((i : ℕ) → i < length occs → has_symbol i c ≡ true) × ((i : ℕ) → has_symbol i c ≡ true → i < length occs)

-- what a Shape of a loaded schema keeps; it has at most 256 occurrences
pub record IsShapeLoaded (s : Schema) (sh : Shape) : Type 0 where
  pub body : BodyOk sh.occs sh.body
  pub values : (o : Occurrence) → Contains sh.occs o → IsEntryIfAny s o.value
  pub few : length sh.occs ≤ 256

-- a loaded schema: an entry refers to smaller entries and to Shapes that are there; labels and start refer to entries
-- that are there, each label once; every Shape keeps its rules, and there are at most 4,096 of them
pub record IsLoaded (s : Schema) : Type 0 where
  pub refers : (e : ExprId) (x : Expr) → entry s e ≡ Some x → RefersBelow s e.0 x
  pub labels : (l : Label) (e : ExprId) → Contains s.labels (l, e) → IsEntry s e
  pub once : AreDistinct (labels_of s.labels)
  pub start : IsEntryIfAny s s.start
  pub shapes : (i : ShapeId) (sh : Shape) → shape_at s i ≡ Some sh → IsShapeLoaded s sh
  pub few : length s.shapes ≤ 4096

-- the target is declared, and e is its expression
abbrev pub IsTarget : Schema → Target → ExprId → Type 0
IsTarget s Targets.Start e = s.start ≡ Some e
IsTarget s (Targets.Label l) e = Contains s.labels (l, e)

-- the target is declared
abbrev pub HasTarget : Schema → Target → Type 0
HasTarget s t = (e : ExprId) × IsTarget s t e
