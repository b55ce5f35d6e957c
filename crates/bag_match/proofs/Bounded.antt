-- There are no more counts than the Width says.
use Rattle.std.proofs.Common.{◌≡◌, ℕ, suc, ◌*◌, ◌≤◌, ◌⊎◌, inl, inr, length, take, drop, List, [], ◌∷◌, ◌++◌, filter, map, not, refl, arith, ap, sym, subst, ◌∙◌, Bool, true, false, cond, slice_index, max, min}
use Rattle.std.proofs.Common.{eq-eqb}
use Rattle.std.proofs.lemmas.Bool.{eqb-true}
use Rattle.std.proofs.lemmas.Grind.{same_number_lists}
use Rattle.std.proofs.lemmas.List.{take-append-drop}
use Rattle.std.proofs.lemmas.List.Elements.{Contains-append_left}
use Rattle.std.proofs.lemmas.List.Sorted.{Contains-permutation, IsPermutation-sym, sum_by-IsPermutation}
use Rattle.std.proofs.lemmas.List.Sums.{length-filter}
use Rattle.std.specs.Prelude.{Contains, Option, count_by, ◌&&◌, ◌||◌}
use Rattle.std.specs.Bool.{beq}
use Rattle.std.specs.List.Sorted.{IsPermutation}
use Rattle.rdf_terms.specs.declared.terms.TermId.{TermId}
use Rattle.rdf_terms.specs.declared.terms.Term.{Term}
use Rattle.rdf_terms.specs.declared.terms.Triple.{Triple}
use Rattle.rdf_terms.specs.Graphs.{is_loop, neigh, same_id}
use Rattle.schema_tree.specs.declared.schema.ExprId.{ExprId}
use Rattle.schema_tree.specs.declared.schema.Shape.{Shape}
use Rattle.schema_tree.specs.declared.verdicts.Place.{Place}
use Rattle.rdf_terms.specs.Order.{neighbourhood}
use Rattle.schema_tree.specs.Places.{AreAllowed, IsAllowed, times}
use Rattle.schema_tree.specs.Relevant.{is_relevant, relevant, relevant_in_order}
use Rattle.schema_tree.specs.Width.{coarse_over, fine_over, firsts, is_certain, is_possible, open_places_for, places_for, product, same_class, same_fine_class, ways}
use Rattle.schema_tree.specs.declared.verdicts.Verdict.{Verdict}
use Rattle.schema_tree.proofs.Ordered.{ordered_same}
use Rattle.bag_match.specs.Bounds.{AreApart, AreCountsOf}
use Rattle.bag_match.proofs.Classes.{IsNear, allowed_form, both_true, beq_true, form_many, form_places, form_same, form_some}
use Rattle.bag_match.proofs.Opens.{allowed_open, fine_itself, fine_many, fine_on, fine_places, fine_same, fine_some}
use Rattle.bag_match.proofs.Spread.{all_have, few_images, few_spreads}
use Rattle.bag_match.proofs.Spreads.{ArePlaced, all_spreads}
use Rattle.lists.proofs.Filters.{filter_has, in_filter}
use Rattle.lists.proofs.Members.{in_rest, is_first, is_later, not_in_none}

-- ---- classes

pub same_of : (n : TermId) (a b : Triple) → same_id a.p b.p ≡ true → is_loop a ≡ is_loop b → same_id a.s n ≡ same_id b.s n → same_class n a b ≡ true
same_of n a b p l s = (λ i. p i && beq (l i) (is_loop b) && beq (s i) (same_id b.s n)) ∙ both (is_loop b) (same_id b.s n)
  where
    both : (x y : Bool) → (true && beq x x && beq y y) ≡ true
    both true true = refl
    both true false = refl
    both false true = refl
    both false false = refl

pub same_parts : (n : TermId) (a b : Triple) → same_class n a b ≡ true → (same_id a.p b.p ≡ true) × (is_loop a ≡ is_loop b) × (same_id a.s n ≡ same_id b.s n)
same_parts n a b same =
    let (xy, z) = both_true (same_id a.p b.p && beq (is_loop a) (is_loop b)) (beq (same_id a.s n) (same_id b.s n)) same in
    let (x, y) = both_true (same_id a.p b.p) (beq (is_loop a) (is_loop b)) xy in
    (x, beq_true (is_loop a) (is_loop b) y, beq_true (same_id a.s n) (same_id b.s n) z)

pub same_itself : (n : TermId) (a : Triple) → same_class n a a ≡ true
same_itself n a = same_of n a a (eq-eqb a.p.0 a.p.0 refl) refl refl

pub same_on : (n : TermId) (a b c : Triple) → same_class n a b ≡ true → same_class n b c ≡ true → same_class n a c ≡ true
same_on n a b c h k =
    let x = same_parts n a b h in let y = same_parts n b c k in
    same_of n a c (eq-eqb a.p.0 c.p.0 (eqb-true a.p.0 b.p.0 x.0 ∙ eqb-true b.p.0 c.p.0 y.0)) (x.1 ∙ y.1) (x.2 ∙ y.2)

in_firsts : (same : Triple → Triple → Bool) (ts : List Triple) (r : Triple) → Contains (firsts same ts) r → Contains ts r
in_firsts same [] r c = c
in_firsts same (t ∷ ts) r c = elim (in_rest t (filter (λ u. not (same t u)) (firsts same ts)) r c) [
  | inl e ↦ subst (λ z. Contains (t ∷ ts) z) e (is_first t ts)
  | inr later ↦ is_later t ts r (in_firsts same ts r (in_filter (λ u. not (same t u)) (firsts same ts) r later).0)
]

-- each triple is of the class of one of the first ones
firsts_cover : (same : Triple → Triple → Bool) → ((a : Triple) → same a a ≡ true) → ((a b c : Triple) → same a b ≡ true → same b c ≡ true → same a c ≡ true) →
    (ts : List Triple) (u : Triple) → Contains ts u → (r : Triple) × Contains (firsts same ts) r × (same r u ≡ true)
firsts_cover same itself on [] u c = absurd (not_in_none u c)
firsts_cover same itself on (t ∷ ts) u c = go (λ later. firsts_cover same itself on ts u later) (in_rest t ts u c)
  where
    others : List Triple
    others = filter (λ v. not (same t v)) (firsts same ts)

    go : (Contains ts u → (r : Triple) × Contains (firsts same ts) r × (same r u ≡ true)) → (t ≡ u) ⊎ Contains ts u →
        (r : Triple) × Contains (t ∷ others) r × (same r u ≡ true)
    go deeper (inl e) = (t, is_first t others, subst (λ z. same t z ≡ true) e (itself t))
    go deeper (inr later) =
        let (r, held, is) = deeper later in
        pick r held is (same t r) refl
      where
        pick : (r : Triple) → Contains (firsts same ts) r → same r u ≡ true → (b : Bool) → same t r ≡ b →
            (x : Triple) × Contains (t ∷ others) x × (same x u ≡ true)
        pick r held is true e = (t, is_first t others, on t r u e is)
        pick r held is false e = (r, is_later t others r (filter_has (λ v. not (same t v)) (firsts same ts) r held (ap not e)), is)

-- ---- counts of lists in another order

count_filter : {X : Type 0} (q p : X → Bool) (xs : List X) → length (filter q (filter p xs)) ≡ length (filter (λ x. p x && q x) xs)
count_filter q p [] = refl
count_filter q p (x ∷ xs) = go (p x) (count_filter q p xs)
  where
    go : (b : Bool) → length (filter q (filter p xs)) ≡ length (filter (λ z. p z && q z) xs) →
        length (filter q (cond b (x ∷ filter p xs) (filter p xs))) ≡ length (cond (b && q x) (x ∷ filter (λ z. p z && q z) xs) (filter (λ z. p z && q z) xs))
    go true h = tail (q x) h
      where
        tail : (c : Bool) → length (filter q (filter p xs)) ≡ length (filter (λ z. p z && q z) xs) →
            length (cond c (x ∷ filter q (filter p xs)) (filter q (filter p xs))) ≡ length (cond c (x ∷ filter (λ z. p z && q z) xs) (filter (λ z. p z && q z) xs))
        tail true e = ap suc e
        tail false e = e
    go false h = h

pub count_order : {X : Type 0} (q p : X → Bool) (xs ys : List X) → IsPermutation xs ys → count_by q (filter p ys) ≡ count_by q (filter p xs)
count_order q p xs ys moved =
    sym (length-filter q (filter p ys)) ∙ count_filter q p ys ∙ length-filter (λ x. p x && q x) ys
    ∙ sum_by-IsPermutation (λ x. cond (p x && q x) 1 0) xs ys moved
    ∙ sym (length-filter (λ x. p x && q x) xs) ∙ sym (count_filter q p xs) ∙ length-filter q (filter p xs)

filter_few : {X : Type 0} (q : X → Bool) (xs ys : List X) → length (filter q xs) ≤ length (filter q (xs ++ ys))
filter_few q [] ys = omega arith
filter_few q (x ∷ xs) ys = go (q x) (filter_few q xs ys)
  where
    go : (b : Bool) → length (filter q xs) ≤ length (filter q (xs ++ ys)) → length (cond b (x ∷ filter q xs) (filter q xs)) ≤ length (cond b (x ∷ filter q (xs ++ ys)) (filter q (xs ++ ys)))
    go true le = omega (arith, le)
    go false le = le

take_few : {X : Type 0} (q : X → Bool) (j : ℕ) (xs : List X) → count_by q (take j xs) ≤ count_by q xs
take_few q j xs =
    let a = length-filter q (take j xs) in
    let b = length-filter q xs in
    let c : length (filter q (take j xs)) ≤ length (filter q xs) = subst (λ zs. length (filter q (take j xs)) ≤ length (filter q zs)) (take-append-drop j xs) (filter_few q (take j xs) (drop j xs)) in
    omega (arith, a, b, c)

-- ---- the bound

module _ (hold fail : TermId → Option ExprId → Type 0) (terms : List Term) (g : List Triple) (sh : Shape) (n : TermId) where
  abbrev rel : List Triple
  rel = relevant sh.occs g n

  abbrev ordered : List Triple
  ordered = relevant_in_order terms g sh n

  near_of : (t : Triple) → Contains rel t → IsNear n t
  near_of t c = (in_filter (λ u. same_id u.s n || same_id u.o n) g t (in_filter (is_relevant sh.occs n) (neigh g n) t c).0).1

  rel_of : (j : ℕ) (t : Triple) → Contains (take j ordered) t → Contains rel t
  rel_of j t c =
      let whole : Contains ordered t = subst (λ zs. Contains zs t) (take-append-drop j ordered) (Contains-append_left (take j ordered) (drop j ordered) t c) in
      let (held, passes) = in_filter (is_relevant sh.occs n) (neighbourhood terms g n) t whole in
      filter_has (is_relevant sh.occs n)
      (neigh g n) t (Contains-permutation (neighbourhood terms g n) (neigh g n) t (IsPermutation-sym (neigh g n) (neighbourhood terms g n) (ordered_same terms g n)) held) passes

  -- triples are divided into classes, each of which has places, and allowed places are among those of the class
  pub record IsDivision (same : Triple → Triple → Bool) (places : Triple → List Place) : Type 0 where
    pub itself : (a : Triple) → same a a ≡ true
    pub on : (a b c : Triple) → same a b ≡ true → same b c ≡ true → same a c ≡ true
    pub alike : (a b : Triple) → IsNear n a → IsNear n b → same a b ≡ true → places a ≡ places b
    pub allowed : (a : Triple) → IsNear n a → (p : Place) → IsAllowed hold fail sh n a p → Contains (places a) p
    pub some : (a : Triple) → is_relevant sh.occs n a ≡ true → 1 ≤ length (places a)

  module _ (same : Triple → Triple → Bool) (places : Triple → List Place) (d : IsDivision same places) where
    placed : (us : List Triple) (ps : List Place) → ((u : Triple) → Contains us u → IsNear n u) → AreAllowed hold fail sh n us ps → ArePlaced (IsNear n) same places us ps
    placed [] [] near h = tt
    placed [] (p ∷ ps) near h = absurd h
    placed (u ∷ us) [] near h = absurd h
    placed (u ∷ us) (p ∷ ps) near h = (
      (λ r near_r is. subst (λ z. Contains z p) (sym (d.alike r u near_r (near u (is_first u us)) is)) (d.allowed u (near u (is_first u us)) p h.0)),
      placed us ps (λ v c. near v (is_later u us v c)) h.1,
    )

    -- different counts are at most as many as the product of the ways of the classes
    pub division_bound : (j : ℕ) (cs : List (List ℕ)) → AreApart cs → ((c : List ℕ) → Contains cs c → AreCountsOf hold fail sh n (take j ordered) c) →
        length cs ≤ product (map (λ r. ways (count_by (same r) rel) (length (places r))) (firsts same rel))
    division_bound j cs apart each =
        let images = few_images Is one cs (all_spreads same places (firsts same rel) (take j ordered)) apart spread in
        let few = few_spreads (IsNear n) same places rel (firsts same rel) (take j ordered) some fewer in
        omega (arith, images, few)
      where
        Is : List ℕ → List Place → Type 0
        Is c e = (length c ≡ length sh.occs) × ((i : ℕ) → slice_index c i ≡ times e i)

        one : (c d : List ℕ) (e : List Place) → Is c e → Is d e → c ≡ d
        one c d e h k = same_number_lists c d (h.0 ∙ sym k.0) (λ i lt. h.1 i ∙ sym (k.1 i))

        spread : (c : List ℕ) → Contains cs c → (e : List Place) × Contains (all_spreads same places (firsts same rel) (take j ordered)) e × Is c e
        spread c held =
            let (ps, allowed, long, counts) = each c held in
            let (e, there, alike) = all_have (IsNear n) same places (firsts same rel) (take j ordered) ps
            (λ r h. near_of r (in_firsts same rel r h))
            (λ u h. firsts_cover same d.itself d.on rel u (rel_of j u h))
            (placed (take j ordered) ps (λ u h. near_of u (rel_of j u h)) allowed) in
            (e, there, (long, λ i. counts i ∙ sym (alike i)))

        some : (r : Triple) → Contains (firsts same rel) r → 1 ≤ length (places r)
        some r h = d.some r (in_filter (is_relevant sh.occs n) (neigh g n) r (in_firsts same rel r h)).1

        fewer : (q : Triple → Bool) → count_by q (take j ordered) ≤ count_by q rel
        fewer q =
            let a = take_few q j ordered in
            let b = count_order q (is_relevant sh.occs n) (neigh g n) (neighbourhood terms g n) (ordered_same terms g n) in
            omega (arith, a, b)

  products_same : (f h : Triple → ℕ) (rs : List Triple) → ((r : Triple) → f r ≡ h r) → product (map f rs) ≡ product (map h rs)
  products_same f h [] is = refl
  products_same f h (r ∷ rs) is = λ i. is r i * products_same f h rs is i

  -- the classes by form
  by_form : IsDivision (same_class n) (form_places sh n)
  by_form = record {
    itself = same_itself n;
    on = same_on n;
    alike = λ a b near near' same. form_same sh n a b near near' same;
    allowed = λ a near p h. allowed_form hold fail sh n a near p h;
    some = λ a is. form_some sh n a is;
  }

  -- the classes by open places too
  by_open : (plain : TermId → Option ExprId → Verdict) → ((m : TermId) (v : Option ExprId) → hold m v → is_possible (plain m v) ≡ true) →
      ((m : TermId) (v : Option ExprId) → fail m v → is_certain (plain m v) ≡ false) → IsDivision (same_fine_class plain sh n) (fine_places plain sh n)
  by_open plain holds fails = record {
    itself = λ a. fine_itself plain sh n a (same_itself n a);
    on = fine_on plain sh n (same_on n);
    alike = λ a b near near' same. fine_same plain sh n a b same;
    allowed = λ a near p h. allowed_open plain sh n hold fail holds fails a near p h;
    some = λ a is. fine_some plain sh n a;
  }

  -- there are no more counts than the product over the classes by form, nor than that over the classes by open places
  pub few_counts : (plain : TermId → Option ExprId → Verdict) → ((m : TermId) (v : Option ExprId) → hold m v → is_possible (plain m v) ≡ true) →
      ((m : TermId) (v : Option ExprId) → fail m v → is_certain (plain m v) ≡ false) →
      (j : ℕ) (cs : List (List ℕ)) → AreApart cs → ((c : List ℕ) → Contains cs c → AreCountsOf hold fail sh n (take j ordered) c) →
      length cs ≤ min (coarse_over sh n rel) (fine_over plain sh n rel)
  few_counts plain holds fails j cs apart each =
      let a = division_bound (same_class n) (form_places sh n) by_form j cs apart each in
      let b = products_same (λ r. ways (count_by (same_class n r) rel) (length (form_places sh n r))) (λ r. ways (count_by (same_class n r) rel) (places_for sh n r)) (firsts (same_class n) rel)
      (λ r i. ways (count_by (same_class n r) rel) (form_many sh n r i)) in
      let c = division_bound (same_fine_class plain sh n) (fine_places plain sh n) (by_open plain holds fails) j cs apart each in
      let d = products_same (λ r. ways (count_by (same_fine_class plain sh n r) rel) (length (fine_places plain sh n r)))
      (λ r. ways (count_by (same_fine_class plain sh n r) rel) (max 1 (open_places_for plain sh n r))) (firsts (same_fine_class plain sh n) rel)
      (λ r i. ways (count_by (same_fine_class plain sh n r) rel) (fine_many plain sh n r i)) in
      omega (arith, a, b, c, d)
