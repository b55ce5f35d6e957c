-- The trees that rules make of their parts (ShEx 2.1, sections 5.3 to 5.5).
use Rattle.std.specs.Prelude.{ℕ, Bool, true, false, List, [], ◌∷◌, Option, Some, None, if◌then◌else◌}
use Rattle.schema_documents.specs.declared.label.Label.{Label}
use Rattle.schema_documents.specs.Tree.{ShapeExpr, TripleExpr, TripleBody, conj, disj, shape, no_triple, triple, each, one, arc, include, exprs, triples}
use Rattle.tally.specs.declared.Bound.{Bound}
use Rattle.tally.specs.declared.Bound.TheVariants as bound
use Rattle.tally.specs.Plan.{is_once}

-- a Shape with nothing
abbrev pub empty_shape : ShapeExpr
empty_shape = shape false [] no_triple

-- both parts of an atom
abbrev pub both : ShapeExpr → ShapeExpr → ShapeExpr
both a b = conj (exprs (a ∷ b ∷ []))

-- the only expression, or all of them together
abbrev pub all_of : List ShapeExpr → ShapeExpr
all_of [] = conj (exprs [])
all_of (e ∷ []) = e
all_of (e ∷ f ∷ es) = conj (exprs (e ∷ f ∷ es))

abbrev pub any_of : List ShapeExpr → ShapeExpr
any_of [] = disj (exprs [])
any_of (e ∷ []) = e
any_of (e ∷ f ∷ es) = disj (exprs (e ∷ f ∷ es))

-- how often an expression comes
abbrev pub Cardinality : Type 0
Cardinality = ℕ × Bound

abbrev pub once : Cardinality
once = (1, bound.Upto 1)

abbrev pub with : Option Label → Cardinality → TripleBody → TripleExpr
with l c b = triple l c.0 c.1 b

-- the only triple expression, or all of them
abbrev pub each_of : List TripleExpr → TripleExpr
each_of [] = with None once (each (triples []))
each_of (t ∷ []) = t
each_of (t ∷ u ∷ ts) = with None once (each (triples (t ∷ u ∷ ts)))

abbrev pub one_of : List TripleExpr → TripleExpr
one_of [] = with None once (one (triples []))
one_of (t ∷ []) = t
one_of (t ∷ u ∷ ts) = with None once (one (triples (t ∷ u ∷ ts)))

-- whether a body is an inclusion
abbrev pub is_inclusion : TripleBody → Bool
is_inclusion (include l) = true
is_inclusion (each ts) = false
is_inclusion (one ts) = false
is_inclusion (arc inverse p value) = false

-- whether a bracketed expression can take a label and a cardinality itself
abbrev pub is_bare : TripleExpr → Bool
is_bare (triple (Some l) least most body) = false
is_bare (triple None least most body) = if is_inclusion body then false else is_once least most

-- the body of an expression
abbrev pub body_in : TripleExpr → TripleBody
body_in (triple l least most body) = body

abbrev pub labelled : Option Label → Cardinality → TripleExpr → TripleExpr
labelled l c t = if is_bare t then with l c (body_in t) else with l c (each (triples (t ∷ [])))

-- a triple expression in round brackets, by its label and its cardinality, where it has them (own)
abbrev pub bracketed : Option Label → Option Cardinality → TripleExpr → TripleExpr
bracketed None None t = t
bracketed (Some l) None t = labelled (Some l) once t
bracketed l (Some c) t = labelled l c t
