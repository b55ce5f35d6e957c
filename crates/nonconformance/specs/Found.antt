-- How the reasons of a node with a Shape are found (own).
use Rattle.std.specs.Prelude.{List, ◌++◌, ◌<◌, ◌^◌, Option, length}
use Rattle.std.specs.List.{flat_map}
use Rattle.lists.specs.Sorting.{sorted_by}
use Rattle.rdf_terms.specs.declared.terms.Term.{Term}
use Rattle.rdf_terms.specs.declared.terms.TermId.{TermId}
use Rattle.rdf_terms.specs.declared.terms.Triple.{Triple}
use Rattle.rdf_terms.specs.Graphs.{outs}
use Rattle.rdf_terms.specs.Order.{by_object}
use Rattle.schema_tree.specs.declared.schema.ExprId.{ExprId}
use Rattle.schema_tree.specs.declared.schema.Shape.{Shape}
use Rattle.schema_tree.specs.Relevant.{relevant_in_order}
use Rattle.nonconformance.specs.declared.offers.Offer.{Offer}
use Rattle.nonconformance.specs.declared.reason.Reason.{Reason}
use Rattle.nonconformance.specs.Offers.{AddsCounted, AreOffers, Concludes, forbidden_by, unmatched_by}

module _ (hold fail : TermId → Option ExprId → Type 0) (terms : List Term) (g : List Triple) (sh : Shape) (n : TermId) where
  -- the arcs out that are forbidden and the relevant triples that are not matched, each in their order
  abbrev pub single_reasons : List Offer → List Reason
  single_reasons offers = flat_map (forbidden_by sh n) (sorted_by (by_object terms) (outs g n)) ++ flat_map unmatched_by offers

  -- first the reasons of single triples, then what is wrong with numbers of triples; where there is nothing, that no numbers within the
  -- ranges match, or that no places do
  pub record AreFound (reasons : List Reason) : Type 0 where
    pub offers : List Offer
    pub are : AreOffers hold fail sh n (relevant_in_order terms g sh n) offers
    pub few : length offers < 2 ^ 31
    pub before : List Reason
    pub counted : AddsCounted (length sh.occs) sh.body offers (single_reasons offers) before
    pub is : Concludes (length sh.occs) sh.body offers before reasons
