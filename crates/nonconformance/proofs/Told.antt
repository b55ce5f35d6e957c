-- What is found of a node with a Shape by a view are all that is promised of the reasons of a pair.
use Rattle.std.proofs.Common.{◌≡◌, ◌∙◌, ◌<◌, sym, subst, length, List, [], ◌∷◌}
use Rattle.std.specs.Prelude.{Contains, Some}
use Rattle.std.specs.List.{AllByRecursion}
use Rattle.rdf_terms.specs.declared.terms.Term.{Term}
use Rattle.rdf_terms.specs.declared.terms.Triple.{Triple}
use Rattle.tally.specs.Laws.{BoxHoldsCopies, IntervalHasCopies, OwnSymbolsDecide}
use Rattle.schema_tree.specs.declared.schema.Pair.{Pair}
use Rattle.schema_tree.specs.declared.schema.Schema.{Schema}
use Rattle.schema_tree.specs.declared.schema.Shape.{Shape}
use Rattle.schema_tree.specs.declared.verdicts.Lean.TheVariants.{Possible}
use Rattle.schema_tree.specs.Entries.{shape_at}
use Rattle.schema_tree.specs.Loaded.{BodyOk, IsLoaded}
use Rattle.schema_tree.specs.Places.{CanMatch, HasPlaces, MayFail, MayHold, PairCanMatch}
use Rattle.schema_tree.specs.Relevant.{relevant_in_order}
use Rattle.schema_tree.specs.Sure.{Known}
use Rattle.nonconformance.specs.declared.offers.Offer.{Offer}
use Rattle.nonconformance.specs.declared.reason.Reason.{Reason}
use Rattle.nonconformance.specs.declared.reason.Reason.TheVariants.{NoMatchingPlaces}
use Rattle.nonconformance.specs.Found.{AreFound}
use Rattle.nonconformance.specs.Offers.{AreKnownOffers, AreKnownOffersOf, AreOffers}
use Rattle.nonconformance.specs.Laws.{LeastIsKept, MostIsKept}
use Rattle.nonconformance.specs.Reasons.{IsForced, IsForcedOf, IsKnownReason, IsKnownReasonOf, IsNamed, IsOfConstraint, IsOfTriple, IsPlainCase, IsPlainCaseOf}
use Rattle.nonconformance.proofs.Found.{found_alone, found_counted, found_forced, found_named, found_sound, found_whole}
use Rattle.nonconformance.proofs.Offering.{some_left}

module _ (s : Schema) (terms : List Term) (g : List Triple) (view : Known) (p : Pair) (sh : Shape) (is : shape_at s p.shape ≡ Some sh) (rs : List Reason)
    (found : AreFound (MayHold s terms view Possible) (MayFail s terms view Possible) terms g sh p.node rs) where
  pub told_some : 0 < length rs
  told_some = some_left _ _ _ _ _ found.is

  pub told_whole : (r : Reason) → IsOfTriple r → IsKnownReason s terms g view p r → Contains rs r
  told_whole r of h =
      found_whole (MayHold s terms view Possible) (MayFail s terms view Possible) terms g sh p.node rs found r of
      (subst (λ x. IsKnownReasonOf s terms g view p.node x r) is h)

  pub told_counted : (r : Reason) → IsOfConstraint s p r → IsKnownReason s terms g view p r → Contains rs r
  told_counted r of h =
      let same : of.shape ≡ sh = (let both : Some of.shape ≡ Some sh = sym of.there ∙ is in cc) in
      found_counted (MayHold s terms view Possible) (MayFail s terms view Possible) terms g sh p.node rs found of.expression
      (subst (λ x. x.body ≡ Some of.expression) same of.is) of.constraint (subst (λ x. of.constraint < length x.occs) same of.within) r of.counts
      (subst (λ x. IsKnownReasonOf s terms g view p.node x r) is h)

  pub told_alone : (r : Reason) → ¬ IsNamed r → Contains rs r → rs ≡ r ∷ []
  told_alone r unnamed there = found_alone (MayHold s terms view Possible) (MayFail s terms view Possible) terms g sh p.node rs found r unnamed there

  module _ (loaded : IsLoaded s) (fails : ¬ PairCanMatch s terms g view Possible p) where
    body : BodyOk sh.occs sh.body
    body = (loaded.shapes p.shape sh is).body

    none : ¬ HasPlaces (MayHold s terms view Possible) (MayFail s terms view Possible) g sh p.node (relevant_in_order terms g sh p.node)
    none = subst (λ x. ¬ CanMatch s terms g view Possible p.node x) is fails

    pub told_sound : LeastIsKept → MostIsKept → BoxHoldsCopies → AllByRecursion (IsKnownReason s terms g view p) rs
    told_sound least most box =
        subst (λ x. AllByRecursion (IsKnownReasonOf s terms g view p.node x) rs) (sym is)
        (found_sound (MayHold s terms view Possible) (MayFail s terms view Possible) terms g sh p.node least most box body rs found none)

    pub told_forced : IntervalHasCopies → OwnSymbolsDecide → IsForced s terms g view p → ¬ Contains rs NoMatchingPlaces
    told_forced interval own forced =
        found_forced (MayHold s terms view Possible) (MayFail s terms view Possible) terms g sh p.node interval own body rs found none
        (subst (λ x. IsForcedOf s terms g view p.node x) is forced)

    pub told_named : IsPlainCase s terms g view p → AllByRecursion IsNamed rs
    told_named plain =
        let own = subst (λ x. IsPlainCaseOf s terms g view p.node x) is plain in
        found_named (MayHold s terms view Possible) (MayFail s terms view Possible) terms g sh p.node body rs found none own.0 own.1

-- what is offered to the relevant triples, by a view
pub known_offers :
    (s : Schema) (terms : List Term) (g : List Triple) (view : Known) (p : Pair) (sh : Shape) → shape_at s p.shape ≡ Some sh →
    (ts : List Triple) (offers : List Offer) → ts ≡ relevant_in_order terms g sh p.node →
    AreOffers (MayHold s terms view Possible) (MayFail s terms view Possible) sh p.node ts offers → AreKnownOffers s terms g view p offers
known_offers s terms g view p sh is ts offers same are =
    subst (λ x. AreKnownOffersOf s terms g view p.node x offers) (sym is)
    (subst (λ us. AreOffers (MayHold s terms view Possible) (MayFail s terms view Possible) sh p.node us offers) same are)
