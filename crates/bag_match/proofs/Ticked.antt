-- Counts that failed are few, and fewer where places are found.
use Rattle.std.proofs.Common.{◌≡◌, ℕ, zero, suc, ◌+◌, ◌-◌, ◌<◌, ◌≤◌, ◌*◌, ◌∙◌, inl, inr, length, get_or, take, List, [], ◌∷◌, arith, ap, sym, subst, refl, slice_index}
use Rattle.std.proofs.lemmas.List.{length-map}
use Rattle.std.proofs.lemmas.Option.{slice_get-get_or}
use Rattle.std.specs.BTreeSet.{BTreeSet}
use Rattle.std.specs.Global.{Vec}
use Rattle.std.specs.Prelude.{Contains, Option, Some, None, slice_get}
use Rattle.rdf_terms.specs.declared.terms.TermId.{TermId}
use Rattle.rdf_terms.specs.declared.terms.Triple.{Triple}
use Rattle.schema_tree.specs.declared.schema.ExprId.{ExprId}
use Rattle.schema_tree.specs.declared.schema.Shape.{Shape}
use Rattle.schema_tree.specs.declared.verdicts.Place.{Place}
use Rattle.schema_tree.specs.Places.{times}
use Rattle.schema_tree.specs.States.{no_counts}
use Rattle.schema_tree.proofs.ToPlaces.{counts_agree}
use Rattle.lists.proofs.Members.{in_rest, not_in_none}
use Rattle.bag_match.specs.Bounds.{AreApart, AreCountsOf, IsBound}
use Rattle.bag_match.specs.Counts.{raised, state_of}
use Rattle.bag_match.specs.Least.{AreLeast, AreOffered, Finishes}
use Rattle.bag_match.specs.Searches.{AreFailed, HasFailed, failed_at}
use Rattle.bag_match.specs.Sets.{lists_in}
use Rattle.bag_match.proofs.Allowed.{as_many}
use Rattle.bag_match.proofs.Came.{bound_some, came_next, opening_came}
use Rattle.bag_match.proofs.Finishing.{finish_some, finish_split}
use Rattle.bag_match.proofs.Looked.{lists_few}
use Rattle.bag_match.proofs.Putting.{lists}
use Rattle.bag_match.proofs.Stepping.{opening_at}

-- one more of the keys of a set is ticked for
pub each_next : (it rest : List (Vec ℕ)) (k : Vec ℕ) (before now start all : ℕ) → it ≡ k ∷ rest → before + length it ≡ start + all → now ≡ before + 1 → now + length rest ≡ start + all
each_next it rest k before now start all is held ticked = let e : length it ≡ suc (length rest) = ap (λ z. length z) is in omega (arith, e, held, ticked)

pub each_end : (keys it : List (Vec ℕ)) (now start : ℕ) → it ≡ [] → now + length it ≡ start + length keys → now ≡ start + length (lists keys)
each_end keys it now start none held =
    let e : length it ≡ 0 = ap (λ z. length z) none in
    let m = length-map keys (λ v. v.items) in
    omega (arith, e, m, held)

held_failed : (sets : List (BTreeSet (Vec ℕ))) (left : ℕ) (c : List ℕ) → Contains (failed_at sets left) c → HasFailed sets left c
held_failed sets left c h = go (slice_get sets left) refl h
  where
    go : (o : Option (BTreeSet (Vec ℕ))) → slice_get sets left ≡ o → Contains (lists_in o) c → HasFailed sets left c
    go None e held = absurd (not_in_none c held)
    go (Some s) e held = (s, e, held)

module _ (hold fail : TermId → Option ExprId → Type 0) (sh : Shape) (n : TermId) (ts : List Triple) where
  -- counts that places lead to and from which the others finish
  comes_through : (ps : List Place) → AreLeast hold fail sh n ts ps → (d : Triple) (j : ℕ) → j ≤ length ts →
      (c : List ℕ) × (qs : List Place) × AreCountsOf hold fail sh n (take j ts) c × Finishes hold fail sh n ts (state_of j c) qs
  comes_through ps least d zero le = (
    no_counts sh.occs,
    ps,
    opening_came hold fail sh n ts,
    (least.allowed, counts_agree sh.body (times ps) (λ i. slice_index (no_counts sh.occs) i + times ps i) (λ i. let z = opening_at sh i in omega (arith, z)) least.spelled),
  )
  comes_through ps least d (suc j) le = let (c, qs, came, fin) = comes_through ps least d j (omega (arith, le)) in go c qs came fin
    where
      within : j < length ts
      within = omega (arith, le)

      at : slice_get ts j ≡ Some (get_or ts j d)
      at = slice_get-get_or ts j d within

      go : (c : List ℕ) (qs : List Place) → AreCountsOf hold fail sh n (take j ts) c → Finishes hold fail sh n ts (state_of j c) qs →
          (c : List ℕ) × (qs : List Place) × AreCountsOf hold fail sh n (take (suc j) ts) c × Finishes hold fail sh n ts (state_of (suc j) c) qs
      go c [] came fin = absurd (finish_some hold fail sh n ts j c (get_or ts j d) at fin)
      go c (q ∷ qs) (before, allowed, long, counts) fin =
          let (there, ok, behind) = finish_split hold fail sh n ts j c (get_or ts j d) q qs at long fin in
          let up : j + 1 ≡ suc j = omega arith in
          (raised c q, qs, subst (λ i. AreCountsOf hold fail sh n (take i ts) (raised c q)) up (came_next hold fail sh n ts j d c q within (before, allowed, long, counts) ok), behind)

  module _ (sets : List (BTreeSet (Vec ℕ))) (are : AreFailed hold fail sh n ts sets) (bound : ℕ) (b : IsBound hold fail sh n ts bound) where
    pub failed_few : (left : ℕ) → left < length ts → AreApart (failed_at sets left) → length (failed_at sets left) ≤ bound
    failed_few left lt apart =
        let count : (length ts - left) + left ≡ length ts = omega (arith, lt) in
        b.few (length ts - left) (failed_at sets left) apart (λ c h. (are (length ts - left) left c count (held_failed sets left c h)).1)

    -- the counts on the way have not failed
    pub failed_fewer : (ps : List Place) → AreLeast hold fail sh n ts ps → (left : ℕ) → left < length ts → AreApart (failed_at sets left) → length (failed_at sets left) + 1 ≤ bound
    failed_fewer ps least left lt apart = go ts refl
      where
        count : (length ts - left) + left ≡ length ts
        count = omega (arith, lt)

        go : (us : List Triple) → ts ≡ us → length (failed_at sets left) + 1 ≤ bound
        go [] none = absurd (let e : length ts ≡ 0 = ap (λ z. length z) none in omega (arith, e, lt))
        go (d ∷ us) some =
            let (c, qs, came, fin) = comes_through ps least d (length ts - left) (omega (arith, lt)) in
            let few = b.few (length ts - left) (c ∷ failed_at sets left)
            ((λ h. (are (length ts - left) left c count (held_failed sets left c h)).0 qs fin), apart)
            (λ x h. elim (in_rest c (failed_at sets left) x h) [
              | inl e ↦ subst (λ z. AreCountsOf hold fail sh n (take (length ts - left) ts) z) e came
              | inr later ↦ (are (length ts - left) left x count (held_failed sets left x later)).1
            ]) in
            omega (arith, few)

  -- what is ticked where places are found
  pub looked_most : (lists : List (List Place)) → AreOffered hold fail sh n ts (length ts) lists → (places lent : List Place) → lent ≡ places → AreLeast hold fail sh n ts places →
      (sets lent_sets : List (BTreeSet (Vec ℕ))) → lent_sets ≡ sets → AreFailed hold fail sh n ts sets → (start now : ℕ) →
      ((bound : ℕ) → 1 ≤ bound → ((some : List Place) → Contains lists some → length some ≤ bound) →
      ((left : ℕ) → left < length lent → AreApart (failed_at lent_sets left) → length (failed_at lent_sets left) + 1 ≤ bound) → now ≤ start + (length lent + 1) * bound) →
      (bound : ℕ) → IsBound hold fail sh n ts bound → now ≤ start + (length ts + 1) * bound
  looked_most lists all places lent same least sets lent_sets alike are start now most bound b =
      subst (λ k. now ≤ start + (k + 1) * bound) long
      (most bound (bound_some hold fail sh n ts bound b) (lists_few hold fail sh n ts lists all places least.allowed bound b) (λ left lt.
      subst (λ z. AreApart (failed_at z left) → length (failed_at z left) + 1 ≤ bound) (sym alike) (failed_fewer sets are bound b places least left (let l = long in omega (arith, lt, l)))))
    where
      long : length lent ≡ length ts
      long = ap (λ z. length z) same ∙ sym (as_many hold fail sh n ts places least.allowed)

  -- what is ticked where there are none
  pub lost_most : (sets lent_sets : List (BTreeSet (Vec ℕ))) → lent_sets ≡ sets → AreFailed hold fail sh n ts sets → (count : ℕ) → count ≡ length ts → (start now : ℕ) →
      ((bound : ℕ) → 1 ≤ bound → ((left : ℕ) → left < count → AreApart (failed_at lent_sets left) → length (failed_at lent_sets left) ≤ bound) → now ≤ start + (count + 1) * bound) →
      (bound : ℕ) → IsBound hold fail sh n ts bound → now ≤ start + (length ts + 1) * bound
  lost_most sets lent_sets alike are count long start now most bound b =
      subst (λ k. now ≤ start + (k + 1) * bound) long
      (most bound (bound_some hold fail sh n ts bound b) (λ left lt.
      subst (λ z. AreApart (failed_at z left) → length (failed_at z left) ≤ bound) (sym alike) (failed_few sets are bound b left (omega (arith, lt, long)))))
