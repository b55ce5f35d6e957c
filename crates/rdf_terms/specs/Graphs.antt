-- Graphs as lists of distinct triples, of which only membership counts (RDF 1.1 Concepts, section 3).
use Rattle.std.specs.Prelude.{Bool, List, nat_eq, filter, ◌||◌}
use Rattle.rdf_terms.specs.declared.terms.TermId.{TermId}
use Rattle.rdf_terms.specs.declared.terms.Triple.{Triple}

abbrev pub same_id : TermId → TermId → Bool
same_id a b = nat_eq a.0 b.0

-- the triples whose subject is n
abbrev pub outs : List Triple → TermId → List Triple
outs g n = filter (λ t. same_id t.s n) g

-- the triples whose object is n
abbrev pub ins : List Triple → TermId → List Triple
ins g n = filter (λ t. same_id t.o n) g

-- the triples whose subject or object is n, a triple of n with itself once
abbrev pub neigh : List Triple → TermId → List Triple
neigh g n = filter (λ t. same_id t.s n || same_id t.o n) g

-- the triple goes from a node to itself
abbrev pub is_loop : Triple → Bool
is_loop t = same_id t.s t.o
