-- What the readers of the parts of a document give: what the value stands for, and that no more expressions nest in it than may.
use Rattle.std.specs.Prelude.{ℕ, ◌≡◌, ◌≤◌, Bool, false, true, List, Option, Some, codes}
use Rattle.serde_json.specs.Data.{Data}
use Rattle.serde_json.specs.Find.{get}
use Rattle.tally.specs.declared.Bound.{Bound}
use Rattle.schema_documents.specs.declared.label.Label.{Label}
use Rattle.schema_documents.specs.Tree.{Declaration, MaybeShapeExpr, ShapeExpr, ShapeExprs, TripleExpr, TripleExprs}
use Rattle.shexj_reader.specs.Cardinalities.{IsCardinality}
use Rattle.shexj_reader.specs.Documents.{SpellsDeclaration, SpellsShapes}
use Rattle.shexj_reader.specs.Expressions.{HasChild, HasMembers, SpellsExpr, SpellsExprs, SpellsTripleExpr, SpellsTripleExprs, SpellsValueExpr}
use Rattle.shexj_reader.specs.Keys.{IsObject, IsPlain, flag, has_only, is_empty_list, texts, with_id}
use Rattle.shexj_reader.specs.Labels.{label_if_any}
use Rattle.shexj_reader.specs.Nesting.{decls_nesting, exprs_nesting, max_nesting, maybe_expr_nesting, nesting, triple_nesting, triples_nesting}
use Rattle.shexj_reader.specs.Types.{group_keys, join_keys, schema_keys}

-- a shape expression
pub record IsExpr (labelled : Bool) (n : ℕ) (e : ShapeExpr) (d : Data) : Type 0 where
  pub spelled : SpellsExpr labelled e d
  pub within : nesting e ≤ n

-- the members of a ShapeOr or a ShapeAnd
pub record AreMembers (labelled : Bool) (n : ℕ) (es : ShapeExprs) (d : Data) : Type 0 where
  pub only : has_only (with_id labelled join_keys) d ≡ true
  pub has_members : HasMembers (codes "shapeExprs") (SpellsExprs es) d
  pub within : exprs_nesting es ≤ n

-- a triple expression
pub record IsTriple (n : ℕ) (t : TripleExpr) (d : Data) : Type 0 where
  pub spelled : SpellsTripleExpr t d
  pub within : triple_nesting t ≤ n

-- the members of an EachOf or a OneOf
pub record AreTriples (n : ℕ) (ts : TripleExprs) (d : Data) : Type 0 where
  pub has_members : HasMembers (codes "expressions") (SpellsTripleExprs ts) d
  pub within : triples_nesting ts ≤ n

-- an EachOf or a OneOf, but for its type
pub record HasGroup (n : ℕ) (ts : TripleExprs) (name : Option Label) (low : ℕ) (high : Bound) (d : Data) : Type 0 where
  pub only : has_only group_keys d ≡ true
  pub has_label : label_if_any (get (codes "id") d) ≡ Some name
  pub has_triples : AreTriples n ts d
  pub counted : IsCardinality low high d
  pub plain : IsPlain d

-- the shape expression of a ShapeDecl, which is not abstract
pub record IsDeclared (e : ShapeExpr) (d : Data) : Type 0 where
  pub has_expr : HasChild (codes "shapeExpr") (SpellsExpr false e) d
  pub concrete : flag (get (codes "abstract") d) ≡ Some false
  pub within : nesting e ≤ max_nesting

-- what a Schema has before its shape expressions
pub record IsHead (imports : List (List ℕ)) (d : Data) : Type 0 where
  pub object : IsObject (codes "Schema") schema_keys d
  pub has_imports : texts (get (codes "imports") d) ≡ Some imports
  pub acts : is_empty_list (get (codes "startActs") d) ≡ true

-- what stands under `start`
pub record IsStart (e : MaybeShapeExpr) (o : Option Data) : Type 0 where
  pub spelled : SpellsValueExpr e o
  pub within : maybe_expr_nesting e ≤ max_nesting

-- a declaration
pub record IsDeclaration (decl : Declaration) (d : Data) : Type 0 where
  pub spelled : SpellsDeclaration decl d
  pub within : nesting decl.expr ≤ max_nesting

-- what stands under `shapes`
pub record AreShapes (decls : List Declaration) (o : Option Data) : Type 0 where
  pub spelled : SpellsShapes decls o
  pub within : decls_nesting decls ≤ max_nesting
