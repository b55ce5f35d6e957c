-- There is one schema for documents, and one holding for documents and triples.
use Rattle.std.proofs.Common.{◌≡◌, subst, ℕ, List, []}
use Rattle.rdf_terms.specs.declared.terms.Term.{Term}
use Rattle.lists.specs.Additions.{AddsAll}
use Rattle.lists.specs.Distinct.{AreDistinct}
use Rattle.lists.proofs.Additions.{all_distinct, all_one}
use Rattle.graph_index.specs.declared.loading.TermTriple.{TermTriple}
use Rattle.graph_index.specs.Loading.{Loads}
use Rattle.graph_index.proofs.Loaded.{loads_one}
use Rattle.schema_documents.specs.Tree.{Document}
use Rattle.schema_load.specs.Laws.{OneSchema}
use Rattle.schema_load.specs.Stands.{Stands}
use Rattle.schema_tree.specs.declared.schema.Schema.{Schema}
use Rattle.schema_tree.specs.Edges.{IsStratum}
use Rattle.schema_tree.proofs.OneStrata.{strata_one}
use Rattle.shex_inputs.specs.Held.{Held, IsHolding, IsSchemaOf, predicates_in}

empty_distinct : {X : Type 0} → AreDistinct {X = X} []
empty_distinct i j x h k = cc

-- the table of the predicates has each term once
pub first_distinct : (docs : List Document) (first : List Term) → AddsAll [] (predicates_in docs) first → AreDistinct first
first_distinct docs first adds = all_distinct [] first (predicates_in docs) empty_distinct adds

-- two tables of the predicates are one
pub first_one : (docs : List Document) (a b : List Term) → AddsAll [] (predicates_in docs) a → AddsAll [] (predicates_in docs) b → a ≡ b
first_one docs a b h k = all_one [] a b (predicates_in docs) h k

-- documents stand for one schema
pub stands_one : OneSchema → (docs : List Document) (a b : List Term) (s t : Schema) → AddsAll [] (predicates_in docs) a → AddsAll [] (predicates_in docs) b → Stands docs a s → Stands docs b t → s ≡ t
stands_one law docs a b s t h k x y =
    law docs b s t (first_distinct docs b k) (subst (λ ts. Stands docs ts s) (first_one docs a b h k) x) y

-- and its Shapes have one list of strata
pub levels_one : OneSchema → (docs : List Document) (a b : List Term) (s t : Schema) (f h : List ℕ) → IsSchemaOf docs a s f → IsSchemaOf docs b t h → f ≡ h
levels_one law docs a b s t f h x y =
    let same : s ≡ t = stands_one law docs a b s t x.predicates y.predicates x.stands y.stands in
    strata_one t f h (subst (λ v. IsStratum v f) same x.strata) y.strata

pub one_holding : OneSchema → (docs : List Document) (triples : List TermTriple) (a b : Held) → IsHolding docs triples a → IsHolding docs triples b →
    a.labels ≡ b.labels → a.names ≡ b.names → a.files ≡ b.files → a ≡ b
one_holding law docs triples a b h k labels names files =
    let x = h.is_schema in
    let y = k.is_schema in
    let firsts : h.first ≡ k.first = first_one docs h.first k.first x.predicates y.predicates in
    let schema : a.schema ≡ b.schema = stands_one law docs h.first k.first a.schema b.schema x.predicates y.predicates x.stands y.stands in
    let strata : a.strata ≡ b.strata = levels_one law docs h.first k.first a.schema b.schema a.strata b.strata x y in
    let (terms, graph) = loads_one k.first a.terms b.terms [] a.graph b.graph triples (first_distinct docs k.first y.predicates)
    (subst (λ z. Loads z [] triples a.terms a.graph) firsts h.graph) k.graph in
    λ i. record { schema = schema i; strata = strata i; labels = labels i; terms = terms i; graph = graph i; names = names i; files = files i }
