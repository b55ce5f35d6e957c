-- A graph as contracts see it.
use Rattle.std.specs.Prelude.{ℕ, List, filter, Option, IsSome, IsSomeAnd, ◌≡◌}
use Rattle.rdf_terms.specs.declared.terms.Term.{Term}
use Rattle.rdf_terms.specs.declared.terms.TermId.{TermId}
use Rattle.rdf_terms.specs.declared.terms.Triple.{Triple}
use Rattle.rdf_terms.specs.Graphs.{outs, ins, same_id}
use Rattle.rdf_terms.specs.Order.{by_object, by_subject}
use Rattle.lists.specs.Sorting.{sorted_by}

-- how many triples a graph holds at most
abbrev pub max_triples : ℕ
max_triples = 4000000

-- the triples with a subject and a predicate
abbrev pub outs_by : List Triple → TermId → TermId → List Triple
outs_by g n p = filter (λ t. same_id t.p p) (outs g n)

-- the triples with an object and a predicate
abbrev pub ins_by : List Triple → TermId → TermId → List Triple
ins_by g n p = filter (λ t. same_id t.p p) (ins g n)

-- two lists of triples: the triples that are lent as those of a subject, and as those of an object
pub record Arrangement : Type 0 where
  pub outward : List Triple
  pub inward : List Triple

-- the triples of a graph, of which only membership counts (RDF 1.1 Concepts, section 3), and what it lends where it is sealed
pub record Contents : Type 0 where
  pub triples : List Triple
  pub lent : Option Arrangement

-- the triples of each node are lent in order, all and no others: those out of it by predicate and then object, those into
-- it by predicate and then subject
pub record IsArranged (terms : List Term) (triples : List Triple) (a : Arrangement) : Type 0 where
  pub outward : (n : TermId) → outs a.outward n ≡ sorted_by (by_object terms) (outs triples n)
  pub inward : (n : TermId) → ins a.inward n ≡ sorted_by (by_subject terms) (ins triples n)

-- the graph is sealed
abbrev pub IsSealed : Contents → Type 0
IsSealed g = IsSome g.lent

-- the graph is sealed with that table
abbrev pub IsSealedWith : List Term → Contents → Type 0
IsSealedWith terms g = IsSomeAnd g.lent (IsArranged terms g.triples)
