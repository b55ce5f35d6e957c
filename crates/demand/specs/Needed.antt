-- The pairs that a pair needs, as a list (own).
use Rattle.std.specs.Prelude.{List, Bool, true, false, map}
use Rattle.std.specs.List.{flat_map}
use Rattle.rdf_terms.specs.declared.terms.Term.{Term}
use Rattle.rdf_terms.specs.declared.terms.TermId.{TermId}
use Rattle.rdf_terms.specs.declared.terms.Triple.{Triple}
use Rattle.lists.specs.Sorting.{sorted_by}
use Rattle.rdf_terms.specs.Order.{by_object, by_subject}
use Rattle.graph_index.specs.Contents.{ins_by, outs_by}
use Rattle.schema_tree.specs.declared.schema.Occurrence.{Occurrence}
use Rattle.schema_tree.specs.declared.schema.Pair.{Pair}
use Rattle.schema_tree.specs.Entries.{pair_of}
use Rattle.schema_tree.specs.Matches.{other_end}
use Rattle.demand.specs.declared.links.Link.{Link}

-- the arcs in or out with a predicate, in order
abbrev pub arcs_by : List Term → List Triple → TermId → TermId → Bool → List Triple
arcs_by terms g n p true = sorted_by (by_subject terms) (ins_by g n p)
arcs_by terms g n p false = sorted_by (by_object terms) (outs_by g n p)

-- the triples that the occurrence fits at the node
abbrev pub arcs_of : List Term → List Triple → TermId → Occurrence → List Triple
arcs_of terms g n o = arcs_by terms g n o.predicate o.inverse

-- the other end of the triple with each Shape of the link
abbrev pub ends_of : Link → Triple → List Pair
ends_of l t = map (pair_of (other_end l.occ.inverse t)) l.shapes

-- the pairs that the link leads to from the node
abbrev pub needs_at : List Term → List Triple → TermId → Link → List Pair
needs_at terms g n l = flat_map (ends_of l) (arcs_of terms g n l.occ)
