-- The nodes, triples, Shapes and schemas of the worked examples.
use Rattle.std.specs.Prelude.{ℕ, true, false, List, [], ◌∷◌, Option, Some, None, codes}
use Rattle.rdf_terms.specs.declared.terms.Term.{Term}
use Rattle.rdf_terms.specs.declared.terms.Term.TheVariants.{Iri, Lit}
use Rattle.rdf_terms.specs.declared.terms.TermId.{TermId}
use Rattle.rdf_terms.specs.declared.terms.Triple.{Triple}
use Rattle.rdf_terms.specs.Vocabulary.{xsd_string}
use Rattle.node_constraint.specs.Constraint.{of_kind}
use Rattle.node_constraint.specs.declared.Kind4.TheVariants as Kinds
use Rattle.tally.specs.Plan.{Plan, sym, each, one, row}
use Rattle.schema_tree.specs.declared.schema.Expr.{Expr}
use Rattle.schema_tree.specs.declared.schema.Expr.TheVariants as Exprs
use Rattle.schema_tree.specs.declared.schema.ExprId.{ExprId}
use Rattle.schema_tree.specs.declared.schema.Occurrence.{Occurrence}
use Rattle.schema_tree.specs.declared.schema.Schema.{Schema}
use Rattle.schema_tree.specs.declared.schema.Shape.{Shape}
use Rattle.schema_tree.specs.declared.schema.ShapeId.{ShapeId}

-- a plain string as a term
abbrev pub plain : List ℕ → Term
plain lex = Lit (record { lex = lex; datatype = xsd_string; lang = None })

-- the terms, each with its number below
abbrev pub terms : List Term
terms = Iri (codes "ann") ∷ Iri (codes "bob") ∷ Iri (codes "cid") ∷ Iri (codes "dan") ∷ Iri (codes "knows") ∷ Iri (codes "name") ∷ plain (codes "A") ∷ plain (codes "B") ∷ []

-- <ann>
abbrev pub ann : TermId
ann = record { 0 = 0 }

-- <bob>
abbrev pub bob : TermId
bob = record { 0 = 1 }

-- <cid>
abbrev pub cid : TermId
cid = record { 0 = 2 }

-- <dan>
abbrev pub dan : TermId
dan = record { 0 = 3 }

-- <knows>
abbrev pub knows : TermId
knows = record { 0 = 4 }

-- <name>
abbrev pub name : TermId
name = record { 0 = 5 }

-- "A"
abbrev pub text_a : TermId
text_a = record { 0 = 6 }

-- "B"
abbrev pub text_b : TermId
text_b = record { 0 = 7 }

-- a triple
abbrev pub arc : TermId → TermId → TermId → Triple
arc s p o = record { s = s; p = p; o = o }

-- the Shape of number i
abbrev pub shape_id : ℕ → ShapeId
shape_id i = record { 0 = i }

-- the expression of number e
abbrev pub expr_id : ℕ → ExprId
expr_id e = record { 0 = e }

-- the node constraint LITERAL
abbrev pub literal : Expr
literal = Exprs.Node (of_kind (Some Kinds.Literal))

-- the triple constraint <p> with its value
abbrev pub out_arc : TermId → Option ExprId → Occurrence
out_arc p value = record { inverse = false; predicate = p; value = value }

-- the triple constraint ^<p> with its value
abbrev pub in_arc : TermId → Option ExprId → Occurrence
in_arc p value = record { inverse = true; predicate = p; value = value }

-- a Shape that is not closed
abbrev pub open_shape : List TermId → Plan → List Occurrence → Shape
open_shape extra body occs = record { closed = false; extra = extra; body = Some body; occs = occs }

-- a closed Shape without EXTRA
abbrev pub closed_shape : Plan → List Occurrence → Shape
closed_shape body occs = record { closed = true; extra = []; body = Some body; occs = occs }

-- a schema without labels and start
abbrev pub schema_of : List Expr → List Shape → Schema
schema_of exprs shapes = record { exprs = exprs; shapes = shapes; labels = []; start = None }

-- an EachOf of occurrences 0 and 1
abbrev pub both : Plan
both = each (row (sym 0 ∷ sym 1 ∷ []))

-- a OneOf of occurrences 0 and 1
abbrev pub either : Plan
either = one (row (sym 0 ∷ sym 1 ∷ []))
