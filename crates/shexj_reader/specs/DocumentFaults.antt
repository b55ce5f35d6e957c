-- What may be wrong with a JSON value in the place of a document (ShEx 2.1, appendix A).
use Rattle.std.specs.Prelude.{ℕ, List, false, true, ◌≡◌, ◌≢◌, Option, Some, None, codes}
use Rattle.serde_json.specs.Data.{Data, array, Items}
use Rattle.serde_json.specs.Find.{as_array, get, get_item}
use Rattle.shexj_reader.specs.Nesting.{max_nesting}
use Rattle.shexj_reader.specs.ExpressionFaults.{ExprFault}
use Rattle.shexj_reader.specs.Faults.{Fault, HasActs, IsBad, IsNoList, IsUnknownKey, form}
use Rattle.shexj_reader.specs.Keys.{flag, texts, type_of}
use Rattle.shexj_reader.specs.Labels.{label}
use Rattle.shexj_reader.specs.Types.{decl_keys, schema_keys}

-- what stands under the key, if anything, is at fault as a shape expression
pub record HasExprFault (key : List ℕ) (f : Fault) (o : Option Data) : Type 0 where
  pub value : Data
  pub there : o ≡ Some value
  pub fault : ExprFault f key false max_nesting value

-- `abstract` is not false
pub record IsAbstract (f : Fault) (d : Data) : Type 0 where
  pub is : f ≡ form (codes "abstract")
  pub other : flag (get (codes "abstract") d) ≢ Some false

-- a ShapeDecl, apart from its label
pub data ShapeDeclFault (f : Fault) (d : Data) : Type 0 where
  unknown_key : IsUnknownKey decl_keys f d → ShapeDeclFault f d
  no_child : f ≡ form (codes "shapeExpr") → get (codes "shapeExpr") d ≡ None → ShapeDeclFault f d
  bad_child : HasExprFault (codes "shapeExpr") f (get (codes "shapeExpr") d) → ShapeDeclFault f d
  not_concrete : IsAbstract f d → ShapeDeclFault f d

-- a declaration
pub data DeclarationFault (f : Fault) (d : Data) : Type 0 where
  bad_label : IsBad (codes "id") label f d → DeclarationFault f d
  in_decl : type_of d ≡ Some (codes "ShapeDecl") → ShapeDeclFault f d → DeclarationFault f d
  in_expr : type_of d ≢ Some (codes "ShapeDecl") → ExprFault f (codes "shapes") true max_nesting d → DeclarationFault f d

-- what stands under `shapes` is no list, or a declaration of it is at fault
pub data ShapesFault (f : Fault) (o : Option Data) : Type 0 where
  no_list : (d : Data) → f ≡ form (codes "shapes") → o ≡ Some d → as_array d ≡ None → ShapesFault f o
  bad_item : (ds : Items) (k : ℕ) (v : Data) → o ≡ Some (array ds) → get_item k ds ≡ Some v → DeclarationFault f v → ShapesFault f o

-- a Schema
pub data SchemaFault (f : Fault) (d : Data) : Type 0 where
  unknown_key : IsUnknownKey schema_keys f d → SchemaFault f d
  bad_imports : IsBad (codes "imports") texts f d → SchemaFault f d
  bad_acts : IsNoList (codes "startActs") f d → SchemaFault f d
  has_acts : HasActs (codes "startActs") f d → SchemaFault f d
  bad_start : HasExprFault (codes "start") f (get (codes "start") d) → SchemaFault f d
  bad_shapes : ShapesFault f (get (codes "shapes") d) → SchemaFault f d

-- a document
pub data DocumentFault (f : Fault) (d : Data) : Type 0 where
  no_schema : f ≡ form (codes "type") → type_of d ≢ Some (codes "Schema") → DocumentFault f d
  bad_schema : type_of d ≡ Some (codes "Schema") → SchemaFault f d → DocumentFault f d
