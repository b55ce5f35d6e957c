-- What is known by the verdicts of refinement, stratum by stratum.
use Rattle.std.proofs.Common.{◌≡◌, ◌∙◌, ap, sym, subst, ℕ, zero, suc, List, ◌++◌, ◌<◌, arith, inl, inr, ◌⊎◌}
use Rattle.std.specs.Prelude.{Contains, ◌↔◌}
use Rattle.std.proofs.lemmas.List.{map-append}
use Rattle.std.proofs.lemmas.List.Elements.{Contains-append_cases}
use Rattle.lists.proofs.Members.{not_in_none, place_of}
use Rattle.rdf_terms.specs.declared.terms.Term.{Term}
use Rattle.rdf_terms.specs.declared.terms.Triple.{Triple}
use Rattle.schema_tree.specs.declared.schema.Pair.{Pair}
use Rattle.schema_tree.specs.declared.schema.Schema.{Schema}
use Rattle.schema_tree.specs.declared.verdicts.Verdict.{Verdict}
use Rattle.schema_tree.specs.declared.verdicts.Verdict.TheVariants.{Yes, No, Unknown}
use Rattle.schema_tree.specs.Edges.{level}
use Rattle.schema_tree.specs.Sure.{Known, PairIs}
use Rattle.removal_laws.specs.Marks.{KnowSame}
use Rattle.typing_refiner.specs.Evidence.{AreRemovals, Removal, pairs_removed}

-- two that know the same pairs answer alike
pub know_alike : (a b : Known) → KnowSame a b → (p : Pair) (v : Verdict) → PairIs a p v ↔ PairIs b p v
know_alike a b same p Yes = (λ h. same.0.0 p h, λ h. same.0.1 p h)
know_alike a b same p No = (λ h. (λ c. h.0 (same.0.1 p c), same.1.0 p h.1), λ h. (λ c. h.0 (same.0.0 p c), same.1.1 p h.1))
know_alike a b same p Unknown = (λ h. (λ c. h.0 (same.0.1 p c), λ c. h.1 (same.1.1 p c)), λ h. (λ c. h.0 (same.0.0 p c), λ c. h.1 (same.1.0 p c)))

pub know_in_turn : (a b c : Known) → KnowSame a b → KnowSame b c → KnowSame a c
know_in_turn a b c h k = ((λ p z. k.0.0 p (h.0.0 p z), λ p z. h.0.1 p (k.0.1 p z)), (λ p z. k.1.0 p (h.1.0 p z), λ p z. h.1.1 p (k.1.1 p z)))

module _ (s : Schema) (terms : List Term) (g : List Triple) (f : List ℕ) (pairs : List Pair) (budget : ℕ) where
  -- the pair is one of those that are asked for, on a stratum below k
  abbrev pub IsBelow : ℕ → Pair → Type 0
  IsBelow k p = Contains pairs p × (level f p.shape < k)

  higher : (k : ℕ) (p : Pair) → IsBelow k p → IsBelow (suc k) p
  higher k p h = (h.0, omega (arith, h.1))

  pub yes_below : (k : ℕ) (known : Known) (all : List Removal) → AreRemovals s terms g f pairs budget k known all → (p : Pair) → Contains known.yes p → IsBelow k p
  yes_below zero known all h p c = absurd (not_in_none p (subst (λ xs. Contains xs p) h.0 c))
  yes_below (suc k) known all (lower, low, gone, kept, before, at, turn, yes_is, no_is, whole) p c = elim (Contains-append_cases lower.yes kept p (subst (λ xs. Contains xs p) yes_is c)) [
    | inl h ↦ higher k p (yes_below k lower low before p h)
    | inr h ↦ (let narrow = (at.confirmed p h).0 in (narrow.0, omega (arith, narrow.1)))
  ]

  pub no_below : (k : ℕ) (known : Known) (all : List Removal) → AreRemovals s terms g f pairs budget k known all → (p : Pair) → Contains known.no p → IsBelow k p
  no_below zero known all h p c = absurd (not_in_none p (subst (λ xs. Contains xs p) h.1 c))
  no_below (suc k) known all (lower, low, gone, kept, before, at, turn, yes_is, no_is, whole) p c = elim (Contains-append_cases lower.no (pairs_removed gone) p (subst (λ xs. Contains xs p) no_is c)) [
    | inl h ↦ higher k p (no_below k lower low before p h)
    | inr h ↦ (let (i, there) = place_of (pairs_removed gone) p h in let narrow = (at.in_turn i p there).0.0 in (narrow.0, omega (arith, narrow.1)))
  ]

  -- no pair is both
  pub apart : (k : ℕ) (known : Known) (all : List Removal) → AreRemovals s terms g f pairs budget k known all → (p : Pair) → Contains known.yes p → ¬ Contains known.no p
  apart zero known all h p c d = absurd (not_in_none p (subst (λ xs. Contains xs p) h.0 c))
  apart (suc k) known all (lower, low, gone, kept, before, at, turn, yes_is, no_is, whole) p c d =
      cases (Contains-append_cases lower.yes kept p (subst (λ xs. Contains xs p) yes_is c))
      (Contains-append_cases lower.no (pairs_removed gone) p (subst (λ xs. Contains xs p) no_is d)) (apart k lower low before p)
    where
      cases : Contains lower.yes p ⊎ Contains kept p → Contains lower.no p ⊎ Contains (pairs_removed gone) p → (Contains lower.yes p → ¬ Contains lower.no p) → ⊥
      cases (inl a) (inl b) deeper = deeper a b
      cases (inl a) (inr b) deeper =
          let less = (yes_below k lower low before p a).1 in
          let (i, there) = place_of (pairs_removed gone) p b in
          let narrow = (at.in_turn i p there).0.0 in
          absurd (omega (arith, less, narrow.1))
      cases (inr a) (inl b) deeper =
          let less = (no_below k lower low before p b).1 in
          let narrow = (at.confirmed p a).0 in
          absurd (omega (arith, less, narrow.1))
      cases (inr a) (inr b) deeper = (at.confirmed p a).1 b

  -- those that went are the pairs with No
  pub gone_are : (k : ℕ) (known : Known) (all : List Removal) → AreRemovals s terms g f pairs budget k known all → pairs_removed all ≡ known.no
  gone_are zero known all h = ap pairs_removed h.2 ∙ sym h.1
  gone_are (suc k) known all (lower, low, gone, kept, before, at, turn, yes_is, no_is, whole) =
      ap pairs_removed whole ∙ map-append (λ (r : Removal). r.pair) low gone ∙ ap (λ xs. xs ++ pairs_removed gone) (gone_are k lower low before) ∙ sym no_is
