-- Which triples of a node the occurrences of a Shape fit, by predicate and direction alone (own words for ShEx 2.1, section
-- 5.5.2, where they are among those that match some TripleConstraint).
use Rattle.std.specs.Prelude.{Bool, List, not, filter, ◌&&◌}
use Rattle.std.specs.List.{list_any}
use Rattle.rdf_terms.specs.declared.terms.TermId.{TermId}
use Rattle.rdf_terms.specs.declared.terms.Term.{Term}
use Rattle.rdf_terms.specs.declared.terms.Triple.{Triple}
use Rattle.rdf_terms.specs.Graphs.{neigh}
use Rattle.schema_tree.specs.declared.schema.Occurrence.{Occurrence}
use Rattle.schema_tree.specs.declared.schema.Shape.{Shape}
use Rattle.schema_tree.specs.Matches.{fits}
use Rattle.rdf_terms.specs.Order.{neighbourhood}

-- the triple is relevant: some occurrence fits it
abbrev pub is_relevant : List Occurrence → TermId → Triple → Bool
is_relevant occs n t = list_any (λ o. fits o n t) occs

-- the relevant triples of n, in no order
abbrev pub relevant : List Occurrence → List Triple → TermId → List Triple
relevant occs g n = filter (is_relevant occs n) (neigh g n)

-- the relevant triples of n, in the order of its neighbourhood
abbrev pub relevant_in_order : List Term → List Triple → Shape → TermId → List Triple
relevant_in_order terms g sh n = filter (is_relevant sh.occs n) (neighbourhood terms g n)

-- the occurrence is forward, which is not inverse, and fits the triple
abbrev pub is_forward : TermId → Triple → Occurrence → Bool
is_forward n t o = not o.inverse && fits o n t
