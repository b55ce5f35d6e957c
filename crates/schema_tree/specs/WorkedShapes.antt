-- What it means that a node has a Shape, worked out on small graphs (ShEx 2.1, section 5.5.2).
use Rattle.std.specs.Prelude.{List, [], ◌∷◌, Some, None, ◌≡◌}
use Rattle.rdf_terms.specs.declared.terms.TermId.{TermId}
use Rattle.rdf_terms.specs.declared.terms.Triple.{Triple}
use Rattle.rdf_terms.specs.Graphs.{neigh}
use Rattle.tally.specs.declared.Bound.TheVariants.{Upto}
use Rattle.tally.specs.Plan.{Plan, sym, each, many, row}
use Rattle.schema_tree.specs.declared.schema.Pair.{Pair}
use Rattle.schema_tree.specs.declared.schema.Schema.{Schema}
use Rattle.schema_tree.specs.Samples.{terms, ann, bob, knows, name, text_a, text_b, arc, shape_id, expr_id, literal, out_arc, in_arc, open_shape, closed_shape, schema_of, both, either}
use Rattle.schema_tree.specs.Shapes.{ShapeOk}

-- <ann> <name> <bob>, "A"
abbrev pub two_names : List Triple
two_names = arc ann name bob ∷ arc ann name text_a ∷ []

-- { <name> LITERAL ; <name> . }
abbrev pub literal_and_any : Schema
literal_and_any = schema_of (literal ∷ []) (open_shape [] both (out_arc name (Some (expr_id 0)) ∷ out_arc name None ∷ []) ∷ [])

-- two constraints on one predicate are met by two triples, one each: the literal serves the constraint that wants one
abbrev pub TwoConstraintsShareTriples : Type 0
TwoConstraintsShareTriples =
    (typing : List Pair) → ShapeOk literal_and_any terms two_names typing ann (shape_id 0)

-- EXTRA with these predicates { <name> LITERAL ; <name> LITERAL }
abbrev pub literal_twice : List TermId → Schema
literal_twice extra =
    schema_of (literal ∷ []) (open_shape extra both (out_arc name (Some (expr_id 0)) ∷ out_arc name (Some (expr_id 0)) ∷ []) ∷ [])

-- EXTRA cannot excuse a triple that is needed twice: whatever is in EXTRA, one literal does not meet two constraints
abbrev pub NoTripleServesTwice : Type 0
NoTripleServesTwice =
    (extra : List TermId) (typing : List Pair) → ¬ ShapeOk (literal_twice extra) terms two_names typing ann (shape_id 0)

-- CLOSED { ^<knows> . }
abbrev pub closed_inverse : Schema
closed_inverse = schema_of [] (closed_shape (sym 0) (in_arc knows None ∷ []) ∷ [])

-- a triple of a node with itself stands once in its neighbourhood, and may serve the inverse constraint of a closed Shape
abbrev pub LoopServesInverse : Type 0
LoopServesInverse =
    (typing : List Pair) →
    (neigh (arc ann knows ann ∷ []) ann ≡ arc ann knows ann ∷ [])
    × ShapeOk closed_inverse terms (arc ann knows ann ∷ []) typing ann (shape_id 0)

-- ( <name> . ; <knows> . ? ){2}
abbrev pub group_twice : Plan
group_twice = many 2 (Upto 2) (each (row (sym 0 ∷ many 0 (Upto 1) (sym 1) ∷ [])))

-- { ( <name> . ; <knows> . ? ){2} }
abbrev pub repeated : Schema
repeated = schema_of [] (open_shape [] group_twice (out_arc name None ∷ out_arc knows None ∷ []) ∷ [])

-- a group that is repeated twice is met by two names and one acquaintance, which stands in one of the two copies
abbrev pub GroupIsRepeated : Type 0
GroupIsRepeated =
    (typing : List Pair) →
    ShapeOk repeated terms (arc ann name text_a ∷ arc ann name text_b ∷ arc ann knows bob ∷ []) typing ann (shape_id 0)

-- one name does not meet it
abbrev pub GroupWantsEachCopy : Type 0
GroupWantsEachCopy =
    (typing : List Pair) → ¬ ShapeOk repeated terms (arc ann name text_a ∷ []) typing ann (shape_id 0)

-- EXTRA with these predicates { <name> . | <knows> . }
abbrev pub either_one : List TermId → Schema
either_one extra = schema_of [] (open_shape extra either (out_arc name None ∷ out_arc knows None ∷ []) ∷ [])

-- a OneOf takes one member: a name alone meets it, and whatever is in EXTRA, a name beside an acquaintance does not
abbrev pub OneOfTakesOne : Type 0
OneOfTakesOne =
    (extra : List TermId) (typing : List Pair) →
    ShapeOk (either_one extra) terms (arc ann name text_a ∷ []) typing ann (shape_id 0)
    × (¬ ShapeOk (either_one extra) terms (arc ann name text_a ∷ arc ann knows bob ∷ []) typing ann (shape_id 0))
