-- Documents as JSON (ShEx 2.1, appendix A, and sections 5.1 to 5.3).
use Rattle.std.specs.Prelude.{List, [], ◌∷◌, Some, codes}
use Rattle.serde_json.specs.Data.{Data, string, Items, no_items, item}
use Rattle.schema_documents.specs.declared.label.Label.{Label}
use Rattle.schema_documents.specs.Tree.{Declaration, Document, ShapeExpr, refer}
use Rattle.shexj_writer.specs.Expressions.{expr_data, value_expr_data}
use Rattle.shexj_writer.specs.Objects.{Field, list_if_any, object_of}
use Rattle.shexj_writer.specs.Texts.{label_data, texts_data}

-- a ShapeDecl, in which a declared reference stands (own: ShEx 2.2 has it)
abbrev pub shape_decl_fields : Data → Data → List Field
shape_decl_fields id inside =
    (codes "id", Some id) ∷
    (codes "shapeExpr", Some inside) ∷
    (codes "type", Some (string (codes "ShapeDecl"))) ∷ []

abbrev pub shape_decl_data : Data → Data → Data
shape_decl_data id inside = object_of (shape_decl_fields id inside)

-- a shape expression that is declared with this label
abbrev pub declared_data : Label → ShapeExpr → Data
declared_data l (refer target) = shape_decl_data (label_data l) (label_data target)
declared_data l e = expr_data (Some (label_data l)) e

-- declarations, in their order
abbrev pub decls_items : List Declaration → Items
decls_items [] = no_items
decls_items (decl ∷ decls) = item (declared_data decl.label decl.expr) (decls_items decls)

-- a Schema
abbrev pub schema_fields : Document → List Field
schema_fields doc =
    (codes "@context", Some (string (codes "http://www.w3.org/ns/shex.jsonld"))) ∷
    (codes "imports", texts_data doc.imports) ∷
    (codes "shapes", list_if_any (decls_items doc.decls)) ∷
    (codes "start", value_expr_data doc.start) ∷
    (codes "type", Some (string (codes "Schema"))) ∷ []

-- the JSON value of a document
unfoldable pub document_data : Document → Data
document_data doc = object_of (schema_fields doc)
