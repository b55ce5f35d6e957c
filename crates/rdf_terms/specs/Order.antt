-- Terms and triples in an order of their own (own: the public standards leave a graph's triples in no order).
use Rattle.std.specs.Prelude.{ℕ, List, [], ◌++◌, slice_get, Option, Some, None, filter, not}
use Rattle.std.specs.declared.cmp.Ordering.{Ordering}
use Rattle.std.specs.Ordering.{nat_cmp, ordering_then}
use Rattle.std.specs.Cmp.Lexicographic.{slice_cmp}
use Rattle.lists.specs.Sorting.{sorted_by}
use Rattle.rdf_terms.specs.declared.terms.TermId.{TermId}
use Rattle.rdf_terms.specs.declared.terms.Term.{Term}
use Rattle.rdf_terms.specs.declared.terms.Triple.{Triple}
use Rattle.rdf_terms.specs.Graphs.{outs, ins, is_loop}
use Rattle.rdf_terms.specs.Written.{term_text}

-- the text of the term, if there is one
abbrev pub text_if_any : Option Term → List ℕ
text_if_any None = []
text_if_any (Some term) = term_text term

-- the text of the term of that number
abbrev pub text_at : List Term → TermId → List ℕ
text_at terms n = text_if_any (slice_get terms n.0)

-- terms stand in the order of the bytes of their texts, a proper prefix first; numbers that share a text, as no two
-- terms of a table do, stand in their own order, so that this is a strict order of all numbers
abbrev pub compare_at : List Term → TermId → TermId → Ordering
compare_at terms a b = ordering_then (slice_cmp nat_cmp (text_at terms a) (text_at terms b)) (nat_cmp a.0 b.0)

-- by predicate and then object
abbrev pub by_object : List Term → Triple → Triple → Ordering
by_object terms a b = ordering_then (compare_at terms a.p b.p) (compare_at terms a.o b.o)

-- by predicate and then subject
abbrev pub by_subject : List Term → Triple → Triple → Ordering
by_subject terms a b = ordering_then (compare_at terms a.p b.p) (compare_at terms a.s b.s)

-- the neighbourhood of n in its order: the arcs out, then the arcs in that are no self-loops
abbrev pub neighbourhood : List Term → List Triple → TermId → List Triple
neighbourhood terms g n =
    sorted_by (by_object terms) (outs g n) ++ filter (λ t. not (is_loop t)) (sorted_by (by_subject terms) (ins g n))
