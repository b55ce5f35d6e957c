-- The entries of a loaded schema.
use Rattle.std.specs.Prelude.{Bool, ◌&&◌, nat_eq, slice_get, Option, Some, None}
use Rattle.rdf_terms.specs.declared.terms.Term.{Term}
use Rattle.rdf_terms.specs.declared.terms.TermId.{TermId}
use Rattle.node_constraint.specs.Constraint.{Constraint}
use Rattle.node_constraint.specs.SatNode.{SatNode}
use Rattle.schema_tree.specs.declared.schema.Schema.{Schema}
use Rattle.schema_tree.specs.declared.schema.Shape.{Shape}
use Rattle.schema_tree.specs.declared.schema.ShapeId.{ShapeId}
use Rattle.schema_tree.specs.declared.schema.ExprId.{ExprId}
use Rattle.schema_tree.specs.declared.schema.Expr.{Expr}
use Rattle.schema_tree.specs.declared.schema.Pair.{Pair}

-- the expression of a number, if there is one
abbrev pub entry : Schema → ExprId → Option Expr
entry s e = slice_get s.exprs e.0

-- the Shape of a number, if there is one
abbrev pub shape_at : Schema → ShapeId → Option Shape
shape_at s i = slice_get s.shapes i.0

-- the term, if there is one, satisfies the node constraint (ShEx 2.1, section 5.4)
abbrev pub SatNodeAt : Constraint → Option Term → Type 0
SatNodeAt c None = ⊥
SatNodeAt c (Some term) = SatNode c term

-- the pair of a node and a Shape
abbrev pub pair_of : TermId → ShapeId → Pair
pair_of n i = record { node = n; shape = i }

-- two pairs are the same
abbrev pub same_pair : Pair → Pair → Bool
same_pair a b = nat_eq a.node.0 b.node.0 && nat_eq a.shape.0 b.shape.0
