-- The product over the classes of triples is that over the keys that are counted.
use Rattle.std.proofs.Common.{◌≡◌, ℕ, zero, suc, ◌+◌, ◌*◌, ◌≤◌, ◌⊎◌, inl, inr, List, [], ◌∷◌, All, map, max, refl, arith, ap, sym, subst, ◌∙◌, Bool, true, false, true≢false, cond, not}
use Rattle.std.proofs.Common.{eq-eqb}
use Rattle.std.proofs.lemmas.Bool.{eqb-true}
use Rattle.std.proofs.lemmas.List.Folds.{Any-from_list_any}
use Rattle.std.proofs.lemmas.List.Sums.{sum_by-cons}
use Rattle.std.proofs.lemmas.Map.Keys.{IsDistinct-from_sorted}
use Rattle.std.proofs.lemmas.Map.Made.{is_some-lookup}
use Rattle.std.proofs.lemmas.Map.Text.{is_eq-slice_cmp}
use Rattle.std.specs.BTreeMap.{BTreeMap, get, keys, is_at}
use Rattle.std.specs.Bool.{beq}
use Rattle.std.specs.Cmp.Lexicographic.{bytes_decides}
use Rattle.std.specs.Global.{Vec}
use Rattle.std.specs.List.{AllByRecursion, IsDistinct, list_all, list_any}
use Rattle.std.specs.List.Sorted.{IsStrictlySortedBy}
use Rattle.std.specs.Map.{keys_of}
use Rattle.std.specs.Ordering.{eq_by_cmp}
use Rattle.std.specs.Prelude.{Contains, Option, Some, bytes_eq, count_by, is_some, sum_by, ◌&&◌, ◌||◌}
use Rattle.rdf_terms.specs.declared.terms.TermId.{TermId}
use Rattle.rdf_terms.specs.declared.terms.Triple.{Triple}
use Rattle.rdf_terms.specs.Graphs.{is_loop, same_id}
use Rattle.schema_tree.specs.declared.schema.ExprId.{ExprId}
use Rattle.schema_tree.specs.declared.schema.Occurrence.{Occurrence}
use Rattle.schema_tree.specs.declared.schema.Shape.{Shape}
use Rattle.schema_tree.specs.declared.verdicts.Verdict.{Verdict}
use Rattle.schema_tree.specs.declared.verdicts.Verdict.TheVariants.{Unknown}
use Rattle.schema_tree.specs.Matches.{fits}
use Rattle.schema_tree.specs.Relevant.{is_forward}
use Rattle.schema_tree.specs.Width.{firsts, is_open, is_open_at, is_open_rest, is_taken_by, open_places_for, places_for, product, same_class, same_fine_class, ways}
use Rattle.bag_match.specs.Keys.{AreCounted, HaveKeys, bit, compare_lists, has_key, held, if_any, is_set, key_of, places_of, ways_by}
use Rattle.bag_match.proofs.Bounded.{same_of, same_parts}
use Rattle.bag_match.proofs.Classes.{IsNear, beq_true, both_true, form_many, form_some, same_fits, same_open}
use Rattle.bag_match.proofs.Keyed.{held_any}
use Rattle.bag_match.proofs.Opens.{fine_parts}
use Rattle.bag_match.proofs.Partition.{AreApartOn, AreTests, tests_product}
use Rattle.lists.proofs.Members.{in_map, in_rest, is_first, is_later, not_in_none}

abbrev Known : Type 0
Known = TermId → Option ExprId → Verdict

abbrev items_of : List (Vec ℕ) → List (List ℕ)
items_of ks = map (λ v. v.items) ks

all_at : {X : Type 0} (P : X → Type 0) (xs : List X) → All P xs → (x : X) → Contains xs x → P x
all_at P xs all x (k, within, at) = subst P at (all k x within)

count_some : {X : Type 0} (p : X → Bool) (xs : List X) (x : X) → Contains xs x → p x ≡ true → 1 ≤ count_by p xs
count_some p [] x c e = absurd (not_in_none x c)
count_some p (y ∷ ys) x c e =
    let a = sum_by-cons (λ z. cond (p z) 1 0) y ys in
    go a (in_rest y ys x c) (λ later. count_some p ys x later e)
  where
    go : sum_by (λ z. bit (p z)) (y ∷ ys) ≡ bit (p y) + count_by p ys → (y ≡ x) ⊎ Contains ys x → (Contains ys x → 1 ≤ count_by p ys) → 1 ≤ count_by p (y ∷ ys)
    go a (inl is) deeper = let b : bit (p y) ≡ 1 = ap (λ z. bit (p z)) is ∙ ap bit e in omega (arith, a, b)
    go a (inr later) deeper = let b = deeper later in omega (arith, a, b)

module _ (plain : Known) (sh : Shape) (n : TermId) (same : Triple → Triple → Bool) (G : Triple → ℕ → ℕ) (rel ts : List Triple)
    (there : (t : Triple) → Contains rel t → Contains ts t) (counts : (q : Triple → Bool) → count_by q ts ≡ count_by q rel)
    (keyed : (t u : Triple) → Contains rel t → Contains rel u → same t u ≡ true → key_of plain sh n t ≡ key_of plain sh n u)
    (back : (t u : Triple) → Contains rel t → Contains rel u → key_of plain sh n t ≡ key_of plain sh n u → same t u ≡ true)
    (factor : (t : Triple) → Contains rel t → (d : ℕ) → G t d ≡ ways d (places_of (key_of plain sh n t)))
    (m : BTreeMap (Vec ℕ) ℕ) (counted : AreCounted plain sh n ts m) (have : HaveKeys plain sh n ts)
    (apart : IsStrictlySortedBy compare_lists (keys m)) (found : All (λ e. get compare_lists m e.0 ≡ Some e.1) m.entries) where
  abbrev test : List ℕ → Triple → Bool
  test = has_key plain sh n

  abbrev H : List ℕ → ℕ → ℕ
  H k d = ways d (places_of k)

  test_is : (k : List ℕ) (t : Triple) → test k t ≡ true → key_of plain sh n t ≡ k
  test_is k t e = (bytes_decides (key_of plain sh n t) k).0 e

  is_test : (k : List ℕ) (t : Triple) → key_of plain sh n t ≡ k → test k t ≡ true
  is_test k t e = (bytes_decides (key_of plain sh n t) k).1 e

  distinct_apart : (ks : List (Vec ℕ)) → IsDistinct (eq_by_cmp compare_lists) ks → AreApartOn same G test H (λ k. refl) rel (items_of ks)
  unfolding IsDistinct
  distinct_apart [] d = tt
  distinct_apart (k ∷ ks) d = ((λ j c t h e. not_both j t e (test j t) refl (others ks d.0 j c)), distinct_apart ks d.1)
    where
      others : (xs : List (Vec ℕ)) → AllByRecursion (λ y. eq_by_cmp compare_lists k y ≡ false) xs → (j : List ℕ) → Contains (items_of xs) j → bytes_eq k.items j ≡ false
      others [] all j c = absurd (not_in_none j c)
      others (x ∷ xs) all j c = elim (in_rest x.items (items_of xs) j c) [
        | inl e ↦ subst (λ z. bytes_eq k.items z ≡ false) e (sym (is_eq-slice_cmp k.items x.items) ∙ all.0)
        | inr later ↦ others xs all.1 j later
      ]

      not_both : (j : List ℕ) (t : Triple) → test k.items t ≡ true → (b : Bool) → test j t ≡ b → bytes_eq k.items j ≡ false → test j t ≡ false
      not_both j t e false f g = f
      not_both j t e true f g = absurd (true≢false (sym ((bytes_decides k.items j).1 (sym (test_is k.items t e) ∙ test_is j t f)) ∙ g))

  some_key : (t : Triple) → Contains rel t → (k : List ℕ) × Contains (items_of (keys m)) k × (test k t ≡ true)
  some_key t c =
      let (v, e) = have t (there t c) in
      let one : 1 ≤ count_by (test v.items) ts = count_some (test v.items) ts t (there t c) (is_test v.items t (sym e)) in
      let (i, k, within, at, passes) = Any-from_list_any (is_at (compare_lists v)) (keys m)
      (sym (is_some-lookup (is_at (compare_lists v)) m.entries) ∙ ap is_some (counted v) ∙ any_some (count_by (test v.items) ts) one) in
      (k.items, in_map (λ z. z.items) (keys m) k (i, within, at), is_test k.items t (sym e ∙ (bytes_decides v.items k.items).0 (sym (is_eq-slice_cmp v.items k.items) ∙ passes)))
    where
      any_some : (k : ℕ) → 1 ≤ k → is_some (if_any k) ≡ true
      any_some zero le = absurd (omega (arith, le))
      any_some (suc k) le = refl

  same_is : (t u : Triple) → Contains rel t → Contains rel u → (k : List ℕ) → test k t ≡ true → same t u ≡ test k u
  same_is t u c d k e = go (same t u) refl (test k u) refl
    where
      go : (a : Bool) → same t u ≡ a → (b : Bool) → test k u ≡ b → same t u ≡ test k u
      go true x true y = x ∙ sym y
      go false x false y = x ∙ sym y
      go true x false y = absurd (true≢false (sym (is_test k u (sym (keyed t u c d x) ∙ test_is k t e)) ∙ y))
      go false x true y = absurd (true≢false (sym (back t u c d (test_is k t e ∙ sym (test_is k u y))) ∙ x))

  tests : AreTests same G test H (λ k. refl) (items_of (keys m)) rel
  tests = record {
    classes = λ k h t u c d e. same_is t u c d k e;
    factors = λ k h t c e d. factor t c d ∙ ap (λ z. ways d (places_of z)) (test_is k t e);
    some = some_key;
  }

  values_are : (es : List (Vec ℕ × ℕ)) → ((e : Vec ℕ × ℕ) → Contains es e → Contains m.entries e) →
      product (map (λ k. H k (count_by (test k) rel)) (items_of (keys_of es))) ≡ product (map (λ e. ways e.1 (places_of e.0.items)) es)
  values_are [] held = refl
  values_are (e ∷ es) held =
      (λ i. ways (value i) (places_of e.0.items) * values_are es (λ x c. held x (is_later e es x c)) i)
    where
      value : count_by (test e.0.items) rel ≡ e.1
      value =
          sym (counts (test e.0.items)) ∙ sym (held_any (count_by (test e.0.items) ts))
          ∙ ap (λ z. Rattle.bag_match.specs.Keys.held z) (sym (counted e.0) ∙ all_at (λ x. get compare_lists m x.0 ≡ Some x.1) m.entries found e (held e (is_first e es)))

  -- the product over the first triple of each class
  pub divided : product (map (λ r. G r (count_by (same r) rel)) (firsts same rel)) ≡ ways_by m
  divided =
      tests_product same G test H (λ k. refl) (items_of (keys m)) rel (distinct_apart (keys m) (IsDistinct-from_sorted compare_lists (keys m) apart)) tests
      ∙ values_are m.entries (λ e c. c)

-- ---- what a key tells

split : (a b : ℕ) (xs ys : List ℕ) → (a ∷ xs) ≡ (b ∷ ys) → (a ≡ b) × (xs ≡ ys)
split a b xs ys e = (ap (first a) e, ap rest e)
  where
    first : ℕ → List ℕ → ℕ
    first d [] = d
    first d (z ∷ zs) = z

    rest : List ℕ → List ℕ
    rest [] = []
    rest (z ∷ zs) = zs

bit_same : (a b : Bool) → bit a ≡ bit b → a ≡ b
bit_same true true e = refl
bit_same true false e = absurd (omega (arith, e))
bit_same false true e = absurd (omega (arith, e))
bit_same false false e = refl

bits_same : (p q : Occurrence → Bool) (os : List Occurrence) → list_all (λ o. beq (p o) (q o)) os ≡ true → map (λ o. bit (p o)) os ≡ map (λ o. bit (q o)) os
bits_same p q [] e = refl
bits_same p q (o ∷ os) e =
    let (here, later) = both_true (beq (p o) (q o)) (list_all (λ x. beq (p x) (q x)) os) e in
    (λ i. bit (beq_true (p o) (q o) here i) ∷ bits_same p q os later i)

bits_back : (p q : Occurrence → Bool) (os : List Occurrence) → map (λ o. bit (p o)) os ≡ map (λ o. bit (q o)) os → list_all (λ o. beq (p o) (q o)) os ≡ true
bits_back p q [] e = refl
bits_back p q (o ∷ os) e =
    let (here, later) = split (bit (p o)) (bit (q o)) (map (λ x. bit (p x)) os) (map (λ x. bit (q x)) os) e in
    (λ i. beq (bit_same (p o) (q o) here i) (q o) && bits_back p q os later i) ∙ itself (q o)
  where
    itself : (b : Bool) → (beq b b && true) ≡ true
    itself true = refl
    itself false = refl

count_bits : (p : Occurrence → Bool) (os : List Occurrence) → count_by is_set (map (λ o. bit (p o)) os) ≡ count_by p os
count_bits p [] = refl
count_bits p (o ∷ os) =
    sum_by-cons (λ k. cond (is_set k) 1 0) (bit (p o)) (map (λ x. bit (p x)) os)
    ∙ (λ i. one (p o) i + count_bits p os i)
    ∙ sym (sum_by-cons (λ x. cond (p x) 1 0) o os)
  where
    one : (b : Bool) → bit (is_set (bit b)) ≡ bit b
    one true = refl
    one false = refl

module _ (plain : Known) (sh : Shape) (n : TermId) where
  -- as many places as the class has open ones
  pub places_are : (t : Triple) → places_of (key_of plain sh n t) ≡ max 1 (open_places_for plain sh n t)
  places_are t =
      let a = sum_by-cons (λ k. cond (is_set k) 1 0) (bit (is_open_rest plain sh n t)) (map (λ o. bit (is_open_at plain n t o)) sh.occs) in
      let b = count_bits (is_open_at plain n t) sh.occs in
      let c = one (is_open_rest plain sh n t) in
      let whole : count_by is_set (bit (is_open_rest plain sh n t) ∷ map (λ o. bit (is_open_at plain n t o)) sh.occs) ≡ open_places_for plain sh n t = omega (arith, a, b, c) in
      ap (λ k. max 1 k) whole
    where
      one : (b : Bool) → bit (is_set (bit b)) ≡ bit b
      one true = refl
      one false = refl

  key_from : (t u : Triple) → same_id t.p u.p ≡ true → is_loop t ≡ is_loop u → same_id t.s n ≡ same_id u.s n → is_open_rest plain sh n t ≡ is_open_rest plain sh n u →
      list_all (λ o. beq (is_open_at plain n t o) (is_open_at plain n u o)) sh.occs ≡ true → key_of plain sh n t ≡ key_of plain sh n u
  key_from t u p l s r os =
      (λ i. eqb-true t.p.0 u.p.0 p i ∷ bit (l i) ∷ bit (s i) ∷ bit (r i) ∷ bits_same (is_open_at plain n t) (is_open_at plain n u) sh.occs os i)

  pub key_parts : (t u : Triple) → key_of plain sh n t ≡ key_of plain sh n u →
      (same_class n t u ≡ true) × (is_open_rest plain sh n t ≡ is_open_rest plain sh n u) × (list_all (λ o. beq (is_open_at plain n t o) (is_open_at plain n u o)) sh.occs ≡ true)
  key_parts t u e =
      let (a, f) = split t.p.0 u.p.0 _ _ e in
      let (b, g) = split (bit (is_loop t)) (bit (is_loop u)) _ _ f in
      let (c, h) = split (bit (same_id t.s n)) (bit (same_id u.s n)) _ _ g in
      let (d, k) = split (bit (is_open_rest plain sh n t)) (bit (is_open_rest plain sh n u)) _ _ h in (
        same_of n t u (eq-eqb t.p.0 u.p.0 a) (bit_same (is_loop t) (is_loop u) b) (bit_same (same_id t.s n) (same_id u.s n) c),
        bit_same (is_open_rest plain sh n t) (is_open_rest plain sh n u) d,
        bits_back (is_open_at plain n t) (is_open_at plain n u) sh.occs k,
      )

  pub fine_keyed : (t u : Triple) → same_fine_class plain sh n t u ≡ true → key_of plain sh n t ≡ key_of plain sh n u
  fine_keyed t u same =
      let (x, y, z) = fine_parts plain sh n t u same in
      let (p, l, s) = same_parts n t u x in
      key_from t u p l s z y

  pub fine_back : (t u : Triple) → key_of plain sh n t ≡ key_of plain sh n u → same_fine_class plain sh n t u ≡ true
  fine_back t u e =
      let (x, y, z) = key_parts t u e in
      (λ i. x i && (z i && beq (y i) (is_open_rest plain sh n u))) ∙ itself (is_open_rest plain sh n u)
    where
      itself : (b : Bool) → beq b b ≡ true
      itself true = refl
      itself false = refl

-- nothing is known of values
abbrev pub nothing : Known
nothing m v = Unknown

module _ (sh : Shape) (n : TermId) where
  fits_open : (t : Triple) (o : Occurrence) → is_open_at nothing n t o ≡ fits o n t
  fits_open t o = go (fits o n t)
    where
      go : (b : Bool) → (b && true) ≡ b
      go true = refl
      go false = refl

  none_taken : (t : Triple) (os : List Occurrence) → list_any (is_taken_by nothing n t) os ≡ false
  none_taken t [] = refl
  none_taken t (o ∷ os) = (λ i. no (is_forward n t o) i || none_taken t os i)
    where
      no : (b : Bool) → (b && false) ≡ false
      no true = refl
      no false = refl

  rest_open : (t : Triple) → is_open_rest nothing sh n t ≡ is_open sh n t
  rest_open t =
      (λ i. (same_id t.o n && not (is_loop t)) || (same_id t.s n && ((list_any (λ p. same_id p t.p) sh.extra && not (none_taken t sh.occs i)) || not (list_any (is_forward n t) sh.occs))))
      ∙ (λ i. (same_id t.o n && not (is_loop t)) || (same_id t.s n && (all (list_any (λ p. same_id p t.p) sh.extra) i || not (list_any (is_forward n t) sh.occs))))
    where
      all : (b : Bool) → (b && true) ≡ b
      all true = refl
      all false = refl

  open_same : (t u : Triple) (os : List Occurrence) → ((o : Occurrence) → fits o n t ≡ fits o n u) → list_all (λ o. beq (is_open_at nothing n t o) (is_open_at nothing n u o)) os ≡ true
  open_same t u [] same = refl
  open_same t u (o ∷ os) same =
      (λ i. beq ((fits_open t o ∙ same o ∙ sym (fits_open u o)) i) (is_open_at nothing n u o) && open_same t u os same i) ∙ itself (is_open_at nothing n u o)
    where
      itself : (b : Bool) → (beq b b && true) ≡ true
      itself true = refl
      itself false = refl

  pub coarse_keyed : (t u : Triple) → IsNear n t → IsNear n u → same_class n t u ≡ true → key_of nothing sh n t ≡ key_of nothing sh n u
  coarse_keyed t u near near' same =
      let (p, l, s) = same_parts n t u same in
      key_from nothing sh n t u p l s (rest_open t ∙ same_open sh n t u near near' same ∙ sym (rest_open u))
      (open_same t u sh.occs (same_fits sh n t u near near' same))

  pub coarse_places : (t : Triple) → list_any (λ o. fits o n t) sh.occs ≡ true → places_of (key_of nothing sh n t) ≡ places_for sh n t
  coarse_places t rel =
      let a = form_some sh n t rel in
      let b = form_many sh n t in
      places_are nothing sh n t ∙ ap (λ k. max 1 k) open_many ∙ (let e : max 1 (places_for sh n t) ≡ places_for sh n t = omega (arith, a, b) in e)
    where
      counts : (os : List Occurrence) → count_by (is_open_at nothing n t) os ≡ count_by (λ o. fits o n t) os
      counts [] = refl
      counts (o ∷ os) =
          sum_by-cons (λ x. cond (is_open_at nothing n t x) 1 0) o os ∙ (λ i. cond (fits_open t o i) 1 0 + counts os i) ∙ sym (sum_by-cons (λ x. cond (fits x n t) 1 0) o os)

      open_many : open_places_for nothing sh n t ≡ places_for sh n t
      open_many = λ i. counts sh.occs i + cond (rest_open t i) 1 0
