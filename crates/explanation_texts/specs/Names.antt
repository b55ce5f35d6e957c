-- The names of expressions and Shapes (own).
use Rattle.std.specs.Prelude.{ℕ, List, [], Option, Some, None, slice_get}
use Rattle.schema_tree.specs.declared.schema.ExprId.{ExprId}
use Rattle.schema_tree.specs.declared.schema.ShapeId.{ShapeId}
use Rattle.explanation_texts.specs.declared.names.Names.{Names}

-- the text of a name, if there is one
abbrev pub name_text : Option (List ℕ) → List ℕ
name_text None = []
name_text (Some name) = name

-- the name of a shape expression
abbrev pub expr_name : Names → ExprId → List ℕ
expr_name names e = name_text (slice_get names.exprs e.0)

-- the name of a Shape
abbrev pub shape_name : Names → ShapeId → List ℕ
shape_name names i = name_text (slice_get names.shapes i.0)
