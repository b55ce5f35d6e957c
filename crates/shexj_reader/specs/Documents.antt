-- Which JSON values stand for a document (ShEx 2.1, appendix A, and sections 5.1 to 5.3).
use Rattle.std.specs.Prelude.{◌≡◌, ◌≤◌, ◌⊎◌, false, true, List, [], ◌∷◌, Option, Some, None, codes, ⊤}
use Rattle.serde_json.specs.Data.{Data, array, Items, no_items, item}
use Rattle.serde_json.specs.Find.{get}
use Rattle.schema_documents.specs.Tree.{Declaration, Document}
use Rattle.shexj_reader.specs.Expressions.{HasChild, SpellsExpr, SpellsValueExpr}
use Rattle.shexj_reader.specs.Keys.{IsObject, flag, is_empty_list, texts}
use Rattle.shexj_reader.specs.Labels.{label}
use Rattle.shexj_reader.specs.Nesting.{document_nesting, max_nesting}
use Rattle.shexj_reader.specs.Types.{decl_keys, schema_keys}

-- a ShapeDecl, which is not abstract; the expression inside has no label of its own
pub record IsShapeDecl (decl : Declaration) (d : Data) : Type 0 where
  pub object : IsObject (codes "ShapeDecl") decl_keys d
  pub has_label : label (get (codes "id") d) ≡ Some decl.label
  pub has_expr : HasChild (codes "shapeExpr") (SpellsExpr false decl.expr) d
  pub concrete : flag (get (codes "abstract") d) ≡ Some false

-- a shape expression with its label
pub record IsLabelled (decl : Declaration) (d : Data) : Type 0 where
  pub has_label : label (get (codes "id") d) ≡ Some decl.label
  pub has_expr : SpellsExpr true decl.expr d

-- a declaration
abbrev pub SpellsDeclaration : Declaration → Data → Type 0
SpellsDeclaration decl d = IsShapeDecl decl d ⊎ IsLabelled decl d

-- declarations, in their order
abbrev pub SpellsDeclarations : List Declaration → Items → Type 0
SpellsDeclarations [] no_items = ⊤
SpellsDeclarations [] (item d ds) = ⊥
SpellsDeclarations (decl ∷ decls) no_items = ⊥
SpellsDeclarations (decl ∷ decls) (item d ds) = SpellsDeclaration decl d × SpellsDeclarations decls ds

-- what stands under `shapes`: a list, or nothing where there are none
abbrev pub SpellsShapes : List Declaration → Option Data → Type 0
SpellsShapes decls None = decls ≡ []
SpellsShapes decls (Some (array ds)) = SpellsDeclarations decls ds
SpellsShapes decls (Some _) = ⊥

-- a Schema; what stands under `@context` is not looked at
pub record SpellsDocument (doc : Document) (d : Data) : Type 0 where
  pub object : IsObject (codes "Schema") schema_keys d
  pub has_imports : texts (get (codes "imports") d) ≡ Some doc.imports
  pub acts : is_empty_list (get (codes "startActs") d) ≡ true
  pub has_start : SpellsValueExpr doc.start (get (codes "start") d)
  pub has_shapes : SpellsShapes doc.decls (get (codes "shapes") d)

-- a document within the limit
pub record IsDocument (doc : Document) (d : Data) : Type 0 where
  pub spelled : SpellsDocument doc d
  pub within : document_nesting doc ≤ max_nesting
