-- Sets of counts that have failed, and the places of one triple that lead to such or to hopeless counts.
use Rattle.std.proofs.Common.{◌≡◌, ℕ, zero, suc, arith, ◌+◌, ◌<◌, ◌≤◌, ◌⊎◌, inl, inr, length, get_or, take, List, [], ◌∷◌, ◌++◌, ap, sym, subst, ◌∙◌, true, refl, ltb}
use Rattle.std.proofs.lemmas.List.{take_all, take_more}
use Rattle.std.proofs.lemmas.Option.{slice_get-get_or, slice_get_within}
use Rattle.std.proofs.lemmas.Bool.{cases_eq, ltb-true}
use Rattle.std.specs.BTreeSet.{BTreeSet}
use Rattle.std.specs.Global.{Vec}
use Rattle.std.specs.Cmp.Lexicographic.{slice_cmp}
use Rattle.std.specs.List.{list_any}
use Rattle.std.specs.Ordering.{is_eq, nat_cmp}
use Rattle.std.specs.Prelude.{Contains, Some, ◌↔◌, slice_get, slice_set}
use Rattle.schema_tree.specs.declared.verdicts.Place.{Place}
use Rattle.tally.specs.Plan.{Plan}
use Rattle.std.specs.Prelude.{Option}
use Rattle.bag_match.specs.Counts.{raised}
use Rattle.bag_match.specs.Hopes.{IsHopeless}
use Rattle.bag_match.specs.Sets.{lists_of}
use Rattle.bag_match.specs.Searches.{AreLost, HasFailed, IsLost, IsOpenFrom}
use Rattle.bag_match.proofs.Putting.{held_there}
use Rattle.bag_match.proofs.Rising.{in_push}

-- an item that is read
pub got_read : {X : Type 0} (xs : List X) (i : ℕ) (x : X) → true ≡ ltb i (length xs) → x ≡ get_or xs i x → slice_get xs i ≡ Some x
got_read xs i x within is = slice_get-get_or xs i x (ltb-true i (length xs) (sym within)) ∙ ap (λ z. Some z) (sym is)

-- what the test of a set finds has failed
pub has_failed_is : (failed : List (BTreeSet (Vec ℕ))) (left : ℕ) (s : BTreeSet (Vec ℕ)) (counts : List ℕ) → slice_get failed left ≡ Some s →
    list_any (λ k. is_eq (slice_cmp nat_cmp counts k.items)) s.keys ≡ true → HasFailed failed left counts
has_failed_is failed left s counts at has = (s, at, held_there s.keys counts has)

-- one of the items is another
got_set_same : {X : Type 0} (xs : List X) (i : ℕ) (x : X) → i < length xs → slice_get (slice_set xs i x) i ≡ Some x
got_set_same [] i x lt = absurd (omega (arith, lt))
got_set_same (y ∷ xs) zero x lt = refl
got_set_same (y ∷ xs) (suc i) x lt = got_set_same xs i x (omega (arith, lt))

got_set_other : {X : Type 0} (xs : List X) (i k : ℕ) (x : X) → ¬ (k ≡ i) → slice_get (slice_set xs i x) k ≡ slice_get xs k
got_set_other [] i k x other = refl
got_set_other (y ∷ xs) zero zero x other = absurd (other refl)
got_set_other (y ∷ xs) zero (suc k) x other = refl
got_set_other (y ∷ xs) (suc i) zero x other = refl
got_set_other (y ∷ xs) (suc i) (suc k) x other = got_set_other xs i k x (λ e. other (ap suc e))

-- counts are put into one of the sets
pub failed_put : (old now : List (BTreeSet (Vec ℕ))) (left : ℕ) (s new : BTreeSet (Vec ℕ)) (counts : List ℕ) →
    ((k : ℕ) (c : List ℕ) → HasFailed now k c → HasFailed old k c) → slice_get now left ≡ Some s →
    ((c : List ℕ) → Contains (lists_of new) c ↔ (Contains (lists_of s) c ⊎ (counts ≡ c))) → (k : ℕ) (c : List ℕ) → HasFailed (slice_set now left new) k c →
    HasFailed old k c ⊎ ((k ≡ left) × (counts ≡ c))
failed_put old now left s new counts before at put k c (x, got, held) = elim (cases_eq k left) [
  | inl same ↦
      let here : slice_get (slice_set now left new) left ≡ Some x = subst (λ i. slice_get (slice_set now left new) i ≡ Some x) same got in
      let is : new ≡ x = one_set new x (sym (got_set_same now left new (slice_get_within now left s at)) ∙ here) in
      elim ((put c).0 (subst (λ z. Contains (lists_of z) c) (sym is) held)) [
        | inl there ↦ inl (before k c (s, ap (λ i. slice_get now i) same ∙ at, there))
        | inr own ↦ inr (same, own)
      ]
  | inr other ↦ inl (before k c (x, sym (got_set_other now left k new other) ∙ got, held))
]
  where
    one_set : (a b : BTreeSet (Vec ℕ)) → Some a ≡ Some b → a ≡ b
    one_set a b e = cc

module _ (body : Option Plan) (more : List ℕ) (failed : List (BTreeSet (Vec ℕ))) (left : ℕ) (counts : List ℕ) (places : List Place) (from : ℕ) where
  abbrev pub LostTo : ℕ → Type 0
  LostTo at = AreLost body more failed left counts (take from places) (take at places)

  pub lost_start : LostTo from
  lost_start p c = inl c

  pub lost_next : (at : ℕ) (d : Place) → at < length places → LostTo at → (now : List ℕ) → now ≡ counts → IsLost body more failed left (raised now (get_or places at d)) → LostTo (at + 1)
  lost_next at d within before now same lost p c = elim (in_push (take at places) (get_or places at d) p (subst (λ zs. Contains zs p) (take_more places at d within) c)) [
    | inl sooner ↦ before p sooner
    | inr own ↦ inr (subst (λ q. IsLost body more failed left (raised counts q)) own (subst (λ z. IsLost body more failed left (raised z (get_or places at d))) same lost))
  ]

  pub lost_all : (at : ℕ) → length places ≤ at → LostTo at → AreLost body more failed left counts (take from places) places
  lost_all at past before p c = before p (subst (λ zs. Contains zs p) (sym (take_all at places past)) c)

  pub open_from : (at : ℕ) (d : Place) → at < length places → LostTo at → (now : List ℕ) → now ≡ counts →
      ¬ IsHopeless body (raised now (get_or places at d)) more → IsOpenFrom body more failed left counts places from at
  open_from at d within before now same hopes =
      (get_or places at d, slice_get-get_or places at d within, subst (λ z. ¬ IsHopeless body (raised z (get_or places at d)) more) same hopes, before)

-- what is told of lent numbers and sets is so of their own
module _ (body : Option Plan) (more lent : List ℕ) (failed lent_failed : List (BTreeSet (Vec ℕ))) (left : ℕ) (counts : List ℕ) where
  pub lost_same : (first places : List Place) → lent ≡ more → lent_failed ≡ failed → AreLost body lent lent_failed left counts first places → AreLost body more failed left counts first places
  lost_same first places same alike h = subst (λ z. AreLost body z failed left counts first places) same (subst (λ z. AreLost body lent z left counts first places) alike h)

  pub open_same : (places : List Place) (from at : ℕ) → lent ≡ more → lent_failed ≡ failed → IsOpenFrom body lent lent_failed left counts places from at →
      IsOpenFrom body more failed left counts places from at
  open_same places from at same alike h = subst (λ z. IsOpenFrom body z failed left counts places from at) same (subst (λ z. IsOpenFrom body lent z left counts places from at) alike h)
