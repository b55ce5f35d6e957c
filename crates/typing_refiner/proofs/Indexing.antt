-- Which pairs need which, as lists of numbers.
use Rattle.std.proofs.Common.{◌≡◌, ◌∙◌, ℕ, zero, suc, ◌<◌, ◌≤◌, ◌+◌, ◌⊎◌, ◌++◌, inl, inr, take, List, [], ◌∷◌, refl, arith, sym, ap, subst, length, get_or, map}
use Rattle.std.proofs.lemmas.Bool.{cases_lt}
use Rattle.std.proofs.lemmas.List.{length-append, length-take-le, map-append, take_more}
use Rattle.std.proofs.lemmas.List.Elements.{Contains-append_cases, Contains-append_left, Contains-append_right}
use Rattle.std.proofs.lemmas.Option.{slice_get-get_or, slice_get_within}
use Rattle.std.specs.Prelude.{◌↔◌, Contains, Some, slice_get, slice_set}
use Rattle.lists.specs.Distinct.{AreDistinct}
use Rattle.lists.specs.Additions.{Adds}
use Rattle.rdf_terms.specs.declared.terms.Triple.{Triple}
use Rattle.lists.proofs.Members.{got_in, in_one, in_rest, is_first, not_in_none}
use Rattle.demand.proofs.Taken.{in_more}
use Rattle.schema_tree.specs.declared.schema.Pair.{Pair}
use Rattle.schema_tree.specs.declared.schema.Schema.{Schema}
use Rattle.schema_tree.specs.Needs.{Needs}
use Rattle.demand.specs.Orders.{max_pairs}
use Rattle.typing_refiner.specs.Building.{AreAddedAt, AreEmpty, AreNeeds, AreNeedsBelow, HasAt, IsAddedAt, IsNeedAt, IsPlacedIn}

-- ---- one list gets a number more

same_lists : (P : Type 0) (l : Type 0) → ¬ l → P ↔ (P ⊎ l)
same_lists P l none = (inl, (λ c. elim c [ inl p ↦ p | inr e ↦ absurd (none e) ]))

one_longer : (xs : List ℕ) (number i j : ℕ) → i ≡ 0 → Contains (xs ++ number ∷ []) j ↔ (Contains xs j ⊎ ((i ≡ 0) × (j ≡ number)))
one_longer xs number i j e = (
  (λ c. elim (Contains-append_cases xs (number ∷ []) j c) [ inl l ↦ inl l | inr r ↦ inr (e, sym (in_one number j r)) ]),
  (λ c. elim c [
    | inl l ↦ Contains-append_left xs (number ∷ []) j l
    | inr t ↦ Contains-append_right xs (number ∷ []) j (subst (λ z. Contains (number ∷ []) z) (sym t.1) (is_first number []))
  ]),
)

abbrev Longer : List ℕ → ℕ → ℕ → List ℕ → Type 0
Longer xs number j ys = Contains ys j ↔ (Contains xs j ⊎ ((zero ≡ zero) × (j ≡ number)))

pub added_at : {V : Type 0} (f : V → List ℕ) (xs : List V) (at number : ℕ) (d v : V) → at < length xs → f v ≡ f (get_or xs at d) ++ number ∷ [] →
    IsAddedAt (map f xs) at number (map f (slice_set xs at v))
added_at f [] at number d v lt is i j = absurd (let e : at < 0 = lt in omega (arith, e))
added_at f (x ∷ xs) zero number d v lt is zero j = subst (Longer (f x) number j) (sym is) (one_longer (f x) number zero j refl)
added_at f (x ∷ xs) zero number d v lt is (suc i) j = same_lists (HasAt (map f xs) i j) ((suc i ≡ zero) × (j ≡ number)) (λ t. let e = t.0 in omega (arith, e))
added_at f (x ∷ xs) (suc at) number d v lt is zero j = same_lists (Contains (f x) j) ((zero ≡ suc at) × (j ≡ number)) (λ t. let e = t.0 in omega (arith, e))
added_at f (x ∷ xs) (suc at) number d v lt is (suc i) j =
    let deeper = added_at f xs at number d v (let l : suc at < suc (length xs) = lt in omega (arith, l)) is i j in (
      (λ c. elim (deeper.0 c) [ inl l ↦ inl l | inr t ↦ inr (ap suc t.0, t.1) ]),
      (λ c. elim c [ inl l ↦ deeper.1 (inl l) | inr t ↦ deeper.1 (inr ((let e = t.0 in let g : i ≡ at = omega (arith, e) in g), t.1)) ]),
    )

-- ---- the lists of some pairs get a number more

module _ (pairs : List Pair) (old now : List (List ℕ)) (found : List Pair) (number k : ℕ) (d : Pair) (inside : k < length found) (h : AreAddedAt pairs old (take k found) number now) where
  pub one_added :
      (distinct : AreDistinct pairs) (at : ℕ) (new : List (List ℕ)) → slice_get pairs at ≡ Some (get_or found k d) → IsAddedAt now at number new →
      AreAddedAt pairs old (take (k + 1) found) number new
  one_added distinct at new there more i j = (to, from)
    where
      to : HasAt new i j → HasAt old i j ⊎ (IsPlacedIn pairs (take (k + 1) found) i × (j ≡ number))
      to c = elim ((more i j).0 c) [
        | inl n ↦ elim ((h i j).0 n) [
          | inl o ↦ inl o
          | inr t ↦ (let ((q, is, in_it), e) = t in inr ((q, is, (in_more found k d q inside).1 (inl in_it)), e))
        ]
        | inr t ↦ inr ((get_or found k d, subst (λ z. slice_get pairs z ≡ Some (get_or found k d)) (sym t.0) there, (in_more found k d (get_or found k d) inside).1 (inr refl)), t.1)
      ]

      from : HasAt old i j ⊎ (IsPlacedIn pairs (take (k + 1) found) i × (j ≡ number)) → HasAt new i j
      from (inl o) = (more i j).1 (inl ((h i j).1 (inl o)))
      from (inr ((q, is, in_it), e)) = elim ((in_more found k d q inside).0 in_it) [
        | inl l ↦ (more i j).1 (inl ((h i j).1 (inr ((q, is, l), e))))
        | inr same ↦ (more i j).1 (inr (distinct i at q is (there ∙ ap (λ z. Some z) same), e))
      ]

  pub one_passed : ¬ Contains pairs (get_or found k d) → AreAddedAt pairs old (take (k + 1) found) number now
  one_passed none i j = (to, from)
    where
      to : HasAt now i j → HasAt old i j ⊎ (IsPlacedIn pairs (take (k + 1) found) i × (j ≡ number))
      to c = elim ((h i j).0 c) [
        | inl o ↦ inl o
        | inr t ↦ (let ((q, is, in_it), e) = t in inr ((q, is, (in_more found k d q inside).1 (inl in_it)), e))
      ]

      from : HasAt old i j ⊎ (IsPlacedIn pairs (take (k + 1) found) i × (j ≡ number)) → HasAt now i j
      from (inl o) = (h i j).1 (inl o)
      from (inr ((q, is, in_it), e)) = elim ((in_more found k d q inside).0 in_it) [
        | inl l ↦ (h i j).1 (inr ((q, is, l), e))
        | inr same ↦ absurd (none (subst (λ z. Contains pairs z) (sym same) (got_in pairs i q is)))
      ]

-- ---- all of them

pub empty_push : (lists : List (List ℕ)) → AreEmpty lists → AreEmpty (lists ++ [] ∷ [])
empty_push [] none zero j has = absurd (let (i, l, e) = has in omega (arith, l))
empty_push [] none (suc i) j has = has
empty_push (x ∷ xs) none zero j has = none 0 j has
empty_push (x ∷ xs) none (suc i) j has = empty_push xs (λ a b c. none (suc a) b c) i j has

module _ (s : Schema) (g : List Triple) (pairs : List Pair) where
  pub at_first : (lists : List (List ℕ)) → AreEmpty lists → AreNeedsBelow s g pairs 0 lists
  at_first lists none i j = ((λ has. absurd (none i j has)), (λ t. let l = t.0 in absurd (let e : j < 0 = l in omega (arith, e))))

  pub one_more :
      (k : ℕ) (p : Pair) (lists new : List (List ℕ)) (found : List Pair) → slice_get pairs k ≡ Some p → AreNeedsBelow s g pairs k lists →
      ((q : Pair) → Contains found q ↔ Needs s g p q) → AreAddedAt pairs lists found k new → AreNeedsBelow s g pairs (k + 1) new
  one_more k p lists new found there h are more i j = (to, from)
    where
      to : HasAt new i j → (j < k + 1) × IsNeedAt s g pairs i j
      to c = elim ((more i j).0 c) [
        | inl o ↦ (let (l, n) = (h i j).0 o in ((let e : j < k + 1 = omega (arith, l) in e), n))
        | inr t ↦ (let ((q, is, in_it), e) = t in ((let l : j < k + 1 = omega (arith, e) in l), (p, q, subst (λ z. slice_get pairs z ≡ Some p) (sym e) there, is, (are q).0 in_it)))
      ]

      from : (j < k + 1) × IsNeedAt s g pairs i j → HasAt new i j
      from (l, (a, b, at_j, at_i, n)) = elim (cases_lt j k) [
        | inl lt ↦ (more i j).1 (inl ((h i j).1 (lt, (a, b, at_j, at_i, n))))
        | inr ge ↦ (let e : j ≡ k = omega (arith, l, ge) in
            let two : Some a ≡ Some p = sym at_j ∙ (ap (λ z. slice_get pairs z) e ∙ there) in
            let same : a ≡ p = cc in
            (more i j).1 (inr ((b, at_i, (are b).1 (subst (λ z. Needs s g z b) same n)), e)))
      ]

  pub all_of_them : (k : ℕ) (lists : List (List ℕ)) → length pairs ≤ k → AreNeedsBelow s g pairs k lists → AreNeeds s g pairs lists
  all_of_them k lists le h i j = (
    (λ has. ((h i j).0 has).1),
    (λ (p, q, at_j, at_i, n). (h i j).1 ((let l = slice_get_within pairs j p at_j in let e : j < k = omega (arith, l, le) in e), (p, q, at_j, at_i, n))),
  )

-- ---- the table of distinct pairs

not_taken : (pairs : List Pair) (i : ℕ) (d : Pair) → AreDistinct pairs → i < length pairs → ¬ Contains (take i pairs) (get_or pairs i d)
not_taken pairs i d distinct inside held =
    let (j, below, is) = taken pairs i (get_or pairs i d) held in
    let e : j ≡ i = distinct j i (get_or pairs i d) is (slice_get-get_or pairs i d inside) in omega (arith, below, e)
  where
    taken : (xs : List Pair) (i : ℕ) (q : Pair) → Contains (take i xs) q → (j : ℕ) × (j < i) × (slice_get xs j ≡ Some q)
    taken xs zero q held = absurd (not_in_none q held)
    taken [] (suc i) q held = absurd (not_in_none q held)
    taken (x ∷ xs) (suc i) q held = elim (in_rest x (take i xs) q held) [
      | inl e ↦ (0, (let l : 0 < suc i = omega arith in l), ap (λ z. Some z) e)
      | inr r ↦ (let (j, l, is) = taken xs i q r in (suc j, (let m : suc j < suc i = omega (arith, l) in m), is))
    ]

pub next_in_table : (pairs old new : List Pair) (i : ℕ) (d : Pair) → AreDistinct pairs → i < length pairs → old ≡ take i pairs → Adds old (get_or pairs i d) new →
    new ≡ take (i + 1) pairs
next_in_table pairs old new i d distinct inside is (inl (held, same)) = absurd (not_taken pairs i d distinct inside (subst (λ xs. Contains xs (get_or pairs i d)) is held))
next_in_table pairs old new i d distinct inside is (inr (fresh, more)) = more ∙ (ap (λ xs. xs ++ get_or pairs i d ∷ []) is ∙ sym (take_more pairs i d inside))

pub has_room : (pairs old : List Pair) (i : ℕ) → i < length pairs → length pairs ≤ max_pairs → old ≡ take i pairs → length old ≡ max_pairs → ⊥
has_room pairs old i inside few is full =
    let e = length-take-le i pairs (let l : i ≤ length pairs = omega (arith, inside) in l) in
    let f : length old ≡ length (take i pairs) = ap length is in omega (arith, inside, few, e, f, full)

pub one_longer_list : {V : Type 0} (xs ys : List V) (v : V) (n : ℕ) → ys ≡ xs ++ v ∷ [] → length xs ≡ n → length ys ≡ n + 1
one_longer_list xs ys v n is same = ap length is ∙ (length-append xs (v ∷ []) ∙ ap (λ k. k + 1) same)

pub empty_next : {V : Type 0} (f : V → List ℕ) (xs : List V) (v : V) (ys : List V) → ys ≡ xs ++ v ∷ [] → f v ≡ [] → AreEmpty (map f xs) → AreEmpty (map f ys)
empty_next f xs v ys is none empty =
    subst AreEmpty (sym (ap (map f) is ∙ (map-append f xs (v ∷ []) ∙ ap (λ w. map f xs ++ w ∷ []) none))) (empty_push (map f xs) empty)

pub added_to : {V : Type 0} (f : V → List ℕ) (xs new : List V) (at number : ℕ) (d u v : V) → at < length xs → u ≡ get_or xs at d → f v ≡ f u ++ number ∷ [] → new ≡ slice_set xs at v →
    IsAddedAt (map f xs) at number (map f new)
added_to f xs new at number d u v lt same is set =
    subst (λ ys. IsAddedAt (map f xs) at number (map f ys)) (sym set) (added_at f xs at number d v lt (is ∙ ap (λ z. f z ++ number ∷ []) same))

pub read_in : (xs ys : List Pair) (k : ℕ) (d : Pair) → xs ≡ ys → k < length ys → slice_get ys k ≡ Some (get_or xs k d)
read_in xs ys k d same inside = subst (λ zs. slice_get ys k ≡ Some (get_or zs k d)) (sym same) (slice_get-get_or ys k d inside)
