-- Lists of places that are the same but for their order are one of the spreads.
use Rattle.std.proofs.Common.{◌≡◌, ℕ, zero, suc, ◌+◌, ◌*◌, ◌≤◌, ◌⊎◌, inl, inr, List, [], ◌∷◌, ◌++◌, length, map, filter, not, refl, arith, ap, sym, subst, ◌∙◌, Bool, true, false, true≢false, cond}
use Rattle.std.proofs.lemmas.Bool.{cases_eq}
use Rattle.std.proofs.lemmas.List.Sums.{length-filter}
use Rattle.std.proofs.lemmas.List.{length-append, length-map}
use Rattle.std.proofs.lemmas.List.Elements.{Contains-append_left, Contains-append_right}
use Rattle.std.specs.Prelude.{Contains, nat_eq, count_by, ◌≢◌}
use Rattle.bag_match.proofs.Ways.{ways_more}
use Rattle.schema_tree.specs.declared.verdicts.Place.{Place}
use Rattle.schema_tree.specs.declared.verdicts.Place.TheVariants.{At, Rest}
use Rattle.schema_tree.specs.Places.{add_place, times}
use Rattle.schema_tree.specs.Width.{next_row, product, ways}
use Rattle.schema_tree.proofs.ToPlaces.{times_append}
use Rattle.bag_match.proofs.Spreads.{next_spreads, spreads, products, all_spreads, ArePlaced, AreClassed, AreAlike}
use Rattle.lists.proofs.Filters.{in_filter}
use Rattle.lists.proofs.Members.{in_map, in_rest, is_first, is_later, not_in_none}
use Rattle.bag_match.proofs.Counting.{add_in_turn}

-- ---- how long

-- more things have no fewer ways where there is a place
ways_at_most : (d e p : ℕ) → 1 ≤ p → d ≤ e → ways d p ≤ ways e p
ways_at_most d e zero some le = absurd (omega (arith, some))
ways_at_most d e (suc p) some le = ways_more d e p le

pub mul-le-mul : (a b c d : ℕ) → a ≤ b → c ≤ d → a * c ≤ b * d
mul-le-mul a b c d h k = grind (arith, h, k)

length_next : (row : List Place → List (List Place)) (f : ℕ → ℕ) → ((ps : List Place) → length (row ps) ≡ f (length ps)) →
    (ps : List Place) → length (next_spreads row ps) ≡ next_row f (length ps)
length_next row f same [] = refl
length_next row f same (p ∷ ps) =
    length-append (next_spreads row ps) (map (λ e. p ∷ e) (row (p ∷ ps)))
    ∙ ap (λ k. k + length (map (λ e. p ∷ e) (row (p ∷ ps)))) (length_next row f same ps)
    ∙ ap (λ k. next_row f (length ps) + k) (length-map (row (p ∷ ps)) (λ e. p ∷ e) ∙ same (p ∷ ps))

pub length_spreads : (d : ℕ) (ps : List Place) → length (spreads d ps) ≡ ways d (length ps)
length_spreads zero ps = refl
length_spreads (suc d) ps = length_next (spreads d) (ways d) (length_spreads d) ps

pub length_products : (xs ys : List (List Place)) → length (products xs ys) ≡ length xs * length ys
length_products [] ys = omega arith
length_products (x ∷ xs) ys =
    let head = length-map ys (λ y. x ++ y) in
    let rest = length_products xs ys in
    let all = length-append (map (λ y. x ++ y) ys) (products xs ys) in
    omega (arith, head, rest, all)

-- ---- alike

pub alike_cons : (p : Place) (es ps : List Place) → AreAlike es ps → AreAlike (p ∷ es) (p ∷ ps)
alike_cons p es ps same i = ap (λ k. add_place i p k) (same i)

add_over : (i : ℕ) (p : Place) (a b : ℕ) → add_place i p (a + b) ≡ add_place i p a + b
add_over i (At j) a b = both (nat_eq i j)
  where
    both : (c : Bool) → cond c (suc (a + b)) (a + b) ≡ cond c (suc a) a + b
    both true = omega arith
    both false = refl
add_over i Rest a b = refl

turned : (p : Place) (i a b : ℕ) → a + add_place i p b ≡ add_place i p (a + b)
turned p i a b =
    let over = add_over i p b a in
    let there : a + add_place i p b ≡ add_place i p b + a = omega arith in
    there ∙ sym over ∙ ap (λ k. add_place i p k) (let back : b + a ≡ a + b = omega arith in back)

pub alike_append : (es ps fs qs : List Place) → AreAlike es ps → AreAlike fs qs → AreAlike (es ++ fs) (ps ++ qs)
alike_append es ps fs qs one two i =
    let a = times_append es fs i in let b = times_append ps qs i in let c = one i in let d = two i in omega (arith, a, b, c, d)

-- ---- an item that is taken out

-- the items one after the other, from the last
abbrev pub fold : {X : Type 0} → (X → ℕ → ℕ) → List X → ℕ
fold f [] = 0
fold f (x ∷ xs) = f x (fold f xs)

-- a list without one item that it has
pub record Without {X : Type 0} (x : X) (ys : List X) : Type 0 where
  pub rest : List X
  pub shorter : length ys ≡ suc (length rest)
  pub others : (z : X) → Contains ys z → (x ≡ z) ⊎ Contains rest z
  pub held : (z : X) → Contains rest z → Contains ys z
  pub same : (f : X → ℕ → ℕ) → ((a b : X) (k : ℕ) → f a (f b k) ≡ f b (f a k)) → fold f ys ≡ f x (fold f rest)

pub take_out : {X : Type 0} (x : X) (ys : List X) → Contains ys x → Without x ys
take_out x [] c = absurd (not_in_none x c)
take_out x (y ∷ ys) c = go (λ later. take_out x ys later) (in_rest y ys x c)
  where
    go : (Contains ys x → Without x ys) → (y ≡ x) ⊎ Contains ys x → Without x (y ∷ ys)
    go deeper (inl same) = record {
      rest = ys;
      shorter = refl;
      others = λ z h. elim (in_rest y ys z h) [ inl e ↦ inl (sym same ∙ e) | inr later ↦ inr later ];
      held = λ z h. is_later y ys z h;
      same = λ f turn. ap (λ v. f v (fold f ys)) same;
    }
    go deeper (inr later) =
        let w = deeper later in
        record {
          rest = y ∷ w.rest;
          shorter = ap suc w.shorter;
          others = λ z h. elim (in_rest y ys z h) [
            | inl e ↦ inr (subst (λ v. Contains (y ∷ w.rest) v) e (is_first y w.rest))
            | inr behind ↦ elim (w.others z behind) [ inl e ↦ inl e | inr r ↦ inr (is_later y w.rest z r) ]
          ];
          held = λ z h. elim (in_rest y w.rest z h) [
            | inl e ↦ subst (λ v. Contains (y ∷ ys) v) e (is_first y ys)
            | inr r ↦ is_later y ys z (w.held z r)
          ];
          same = λ f turn. ap (λ k. f y k) (w.same f turn) ∙ turn y x (fold f w.rest);
        }

-- each item of a list of distinct ones has one of its own in the other list, so that is no shorter
abbrev pub AreApart : {X : Type 0} → List X → Type 0
AreApart [] = Unit {0}
AreApart (x ∷ xs) = (¬ Contains xs x) × AreApart xs

pub few_images : {X E : Type 0} (R : X → E → Type 0) → ((x y : X) (e : E) → R x e → R y e → x ≡ y) → (xs : List X) (es : List E) → AreApart xs →
    ((x : X) → Contains xs x → (e : E) × Contains es e × R x e) → length xs ≤ length es
few_images R one [] es apart each = omega arith
few_images R one (x ∷ xs) es apart each =
    let (e, held, r) = each x (is_first x xs) in
    let w = take_out e es held in
    let shorter = w.shorter in
    let rest = few_images R one xs w.rest apart.1 (λ y c. other e r w y c) in
    omega (arith, shorter, rest)
  where
    other : (e : _) → R x e → (w : Without e es) → (y : _) → Contains xs y → (f : _) × Contains w.rest f × R y f
    other e r w y c =
        let (f, h, s) = each y (is_later x xs y c) in
        elim (w.others f h) [
          | inl same ↦ absurd (apart.0 (subst (λ z. Contains xs z) (one y x e (subst (λ g. R y g) (sym same) s) r) c))
          | inr behind ↦ (f, behind, s)
        ]

-- ---- places

same_place : (p q : Place) → (p ≡ q) ⊎ (p ≢ q)
same_place (At i) (At j) = elim (cases_eq i j) [
  | inl e ↦ inl (ap At e)
  | inr ne ↦ inr (λ e. ne (let k : i ≡ j = cc in k))
]
same_place (At i) Rest = inr (λ e. cc)
same_place Rest (At j) = inr (λ e. cc)
same_place Rest Rest = inl refl

is_among : (p : Place) (ps : List Place) → Contains ps p ⊎ (¬ Contains ps p)
is_among p [] = inr (not_in_none p)
is_among p (q ∷ qs) = go (same_place q p) (is_among p qs)
  where
    go : (q ≡ p) ⊎ (q ≢ p) → Contains qs p ⊎ (¬ Contains qs p) → Contains (q ∷ qs) p ⊎ (¬ Contains (q ∷ qs) p)
    go (inl e) rest = inl (subst (λ z. Contains (q ∷ qs) z) e (is_first q qs))
    go (inr ne) (inl later) = inl (is_later q qs p later)
    go (inr ne) (inr none) = inr (λ c. elim (in_rest q qs p c) [ inl e ↦ ne e | inr later ↦ none later ])

times_fold : (ps : List Place) (i : ℕ) → times ps i ≡ fold (add_place i) ps
times_fold [] i = refl
times_fold (p ∷ ps) i = ap (λ k. add_place i p k) (times_fold ps i)

-- a list is like that with one of its places taken to the front
front_alike : (p : Place) (qs : List Place) (w : Without p qs) → AreAlike (p ∷ w.rest) qs
front_alike p qs w i =
    ap (λ k. add_place i p k) (times_fold w.rest i) ∙ sym (w.same (add_place i) (λ a b k. add_in_turn i b a k)) ∙ sym (times_fold qs i)

in_products : (xs ys : List (List Place)) (x y : List Place) → Contains xs x → Contains ys y → Contains (products xs ys) (x ++ y)
in_products [] ys x y c h = absurd (not_in_none x c)
in_products (z ∷ zs) ys x y c h = go (λ later. in_products zs ys x y later h) (in_rest z zs x c)
  where
    go : (Contains zs x → Contains (products zs ys) (x ++ y)) → (z ≡ x) ⊎ Contains zs x → Contains (map (λ v. z ++ v) ys ++ products zs ys) (x ++ y)
    go deeper (inl e) =
        Contains-append_left (map (λ v. z ++ v) ys) (products zs ys) (x ++ y)
        (subst (λ v. Contains (map (λ u. z ++ u) ys) v) (ap (λ v. v ++ y) e) (in_map (λ v. z ++ v) ys y h))
    go deeper (inr later) = Contains-append_right (map (λ v. z ++ v) ys) (products zs ys) (x ++ y) (deeper later)

abbrev pub Has : List (List Place) → List Place → Type 0
Has ess qs = (e : List Place) × Contains ess e × AreAlike e qs

abbrev pub AreOf : List Place → List Place → Type 0
AreOf ps qs = (q : Place) → Contains qs q → Contains ps q

next_has : (d : ℕ) (row : List Place → List (List Place)) → ((ps qs : List Place) → length qs ≡ d → AreOf ps qs → Has (row ps) qs) →
    (ps qs : List Place) → length qs ≡ suc d → AreOf ps qs → Has (next_spreads row ps) qs
next_has d row deeper [] [] len of = absurd (omega (arith, len))
next_has d row deeper [] (q ∷ qs) len of = absurd (not_in_none q (of q (is_first q qs)))
next_has d row deeper (p ∷ ps) qs len of = go (λ of_rest. next_has d row deeper ps qs len of_rest) (is_among p qs)
  where
    go : (AreOf ps qs → Has (next_spreads row ps) qs) → Contains qs p ⊎ (¬ Contains qs p) → Has (next_spreads row ps ++ map (λ e. p ∷ e) (row (p ∷ ps))) qs
    go shorter (inl c) =
        let w = take_out p qs c in
        let less : length w.rest ≡ d = (let one = w.shorter in omega (arith, one, len)) in
        let (e, h, s) = deeper (p ∷ ps) w.rest less (λ q k. of q (w.held q k)) in (
          p ∷ e,
          Contains-append_right (next_spreads row ps) (map (λ v. p ∷ v) (row (p ∷ ps))) (p ∷ e) (in_map (λ v. p ∷ v) (row (p ∷ ps)) e h),
          λ i. alike_cons p e w.rest s i ∙ front_alike p qs w i,
        )
    go shorter (inr none) =
        let (e, h, s) = shorter (λ q c. elim (in_rest p ps q (of q c)) [ inl same ↦ absurd (none (subst (λ z. Contains qs z) (sym same) c)) | inr later ↦ later ]) in
        (e, Contains-append_left (next_spreads row ps) (map (λ v. p ∷ v) (row (p ∷ ps))) e h, s)

pub spread_has : (d : ℕ) (ps qs : List Place) → length qs ≡ d → AreOf ps qs → Has (spreads d ps) qs
spread_has zero ps [] len of = ([], is_first [] [], λ i. refl)
spread_has zero ps (q ∷ qs) len of = absurd (omega (arith, len))
spread_has (suc d) ps qs len of = next_has d (spreads d) (spread_has d) ps qs len of

-- ---- classes

not_so : (b : Bool) → not b ≡ true → b ≡ false
not_so true e = absurd (true≢false (sym e))
not_so false e = refl

-- the places of the items that pass a test
abbrev pub picked : {X : Type 0} → (X → Bool) → List X → List Place → List Place
picked q [] ps = []
picked q (u ∷ us) [] = []
picked q (u ∷ us) (p ∷ ps) = cond (q u) (p ∷ picked q us ps) (picked q us ps)

module _ {X : Type 0} (Near : X → Type 0) (same : X → X → Bool) (places : X → List Place) where
  picked_filter : (q : X → Bool) (us : List X) (ps : List Place) → ArePlaced Near same places us ps → length (picked q us ps) ≡ length (filter q us)
  picked_filter q [] [] h = refl
  picked_filter q [] (p ∷ ps) h = absurd h
  picked_filter q (u ∷ us) [] h = absurd h
  picked_filter q (u ∷ us) (p ∷ ps) h = go (q u) (picked_filter q us ps h.1)
    where
      go : (b : Bool) → length (picked q us ps) ≡ length (filter q us) → length (cond b (p ∷ picked q us ps) (picked q us ps)) ≡ length (cond b (u ∷ filter q us) (filter q us))
      go true e = ap suc e
      go false e = e

  picked_length : (q : X → Bool) (us : List X) (ps : List Place) → ArePlaced Near same places us ps → length (picked q us ps) ≡ count_by q us
  picked_length q us ps h = picked_filter q us ps h ∙ length-filter q us

  picked_placed : (q : X → Bool) (us : List X) (ps : List Place) → ArePlaced Near same places us ps → ArePlaced Near same places (filter q us) (picked q us ps)
  picked_placed q [] [] h = tt
  picked_placed q [] (p ∷ ps) h = absurd h
  picked_placed q (u ∷ us) [] h = absurd h
  picked_placed q (u ∷ us) (p ∷ ps) h = go (q u) (picked_placed q us ps h.1)
    where
      go : (b : Bool) → ArePlaced Near same places (filter q us) (picked q us ps) → ArePlaced Near same places (cond b (u ∷ filter q us) (filter q us)) (cond b (p ∷ picked q us ps) (picked q us ps))
      go true e = (h.0, e)
      go false e = e

  picked_of : (r : X) → Near r → (us : List X) (ps : List Place) → ArePlaced Near same places us ps → AreOf (places r) (picked (same r) us ps)
  picked_of r near [] [] h = λ p c. absurd (not_in_none p c)
  picked_of r near [] (q ∷ qs) h = absurd h
  picked_of r near (u ∷ us) [] h = absurd h
  picked_of r near (u ∷ us) (p ∷ ps) h = go (same r u) refl (picked_of r near us ps h.1)
    where
      go : (b : Bool) → same r u ≡ b → AreOf (places r) (picked (same r) us ps) → AreOf (places r) (cond b (p ∷ picked (same r) us ps) (picked (same r) us ps))
      go true e of = λ q c. elim (in_rest p (picked (same r) us ps) q c) [ inl is ↦ subst (λ z. Contains (places r) z) is (h.0 r near e) | inr later ↦ of q later ]
      go false e of = of

  picked_both : (q : X → Bool) (us : List X) (ps : List Place) → ArePlaced Near same places us ps → AreAlike (picked q us ps ++ picked (λ u. not (q u)) us ps) ps
  picked_both q [] [] h = λ i. refl
  picked_both q [] (p ∷ ps) h = absurd h
  picked_both q (u ∷ us) [] h = absurd h
  picked_both q (u ∷ us) (p ∷ ps) h = go (q u) (picked_both q us ps h.1)
    where
      ins : List Place
      ins = picked q us ps

      outs : List Place
      outs = picked (λ v. not (q v)) us ps

      go : (b : Bool) → AreAlike (ins ++ outs) ps → AreAlike (cond b (p ∷ ins) ins ++ cond (not b) (p ∷ outs) outs) (p ∷ ps)
      go true e = alike_cons p (ins ++ outs) ps e
      go false e = λ i.
          let a = times_append ins (p ∷ outs) i in
          let b = times_append ins outs i in
          let c = e i in
          let d = turned p i (times ins i) (times outs i) in
          a ∙ d ∙ ap (λ k. add_place i p k) (sym b ∙ c)

  pub all_have : (rs us : List X) (ps : List Place) → ((r : X) → Contains rs r → Near r) → AreClassed same rs us → ArePlaced Near same places us ps → Has (all_spreads same places rs us) ps
  all_have [] [] [] near classed h = ([], is_first [] [], λ i. refl)
  all_have [] [] (p ∷ ps) near classed h = absurd h
  all_have [] (u ∷ us) ps near classed h = let (r, c, e) = classed u (is_first u us) in absurd (not_in_none r c)
  all_have (r ∷ rs) us ps near classed h =
      let (e, c, s) = spread_has (count_by (same r) us) (places r) (picked (same r) us ps) (picked_length (same r) us ps h) (picked_of r (near r (is_first r rs)) us ps h) in
      let (f, d, t) = all_have rs (filter (λ u. not (same r u)) us) (picked (λ u. not (same r u)) us ps) (λ x c. near x (is_later r rs x c)) (others) (picked_placed (λ u. not (same r u)) us ps h) in (
        e ++ f,
        in_products (spreads (count_by (same r) us) (places r)) (all_spreads same places rs (filter (λ u. not (same r u)) us)) e f c d,
        λ i. alike_append e (picked (same r) us ps) f (picked (λ u. not (same r u)) us ps) s t i ∙ picked_both (same r) us ps h i,
      )
    where
      others : AreClassed same rs (filter (λ u. not (same r u)) us)
      others u c =
          let (held, apart) = in_filter (λ v. not (same r v)) us u c in
          let (x, d, e) = classed u held in
          elim (in_rest r rs x d) [
            | inl is ↦ absurd (true≢false (sym (subst (λ z. same z u ≡ true) (sym is) e) ∙ not_so (same r u) apart))
            | inr later ↦ (x, later, e)
          ]

  product_grows : (f g : X → ℕ) (rs : List X) → ((r : X) → Contains rs r → f r ≤ g r) → product (map f rs) ≤ product (map g rs)
  product_grows f g [] le = omega arith
  product_grows f g (r ∷ rs) le =
      let a = le r (is_first r rs) in
      let b = product_grows f g rs (λ x c. le x (is_later r rs x c)) in
      mul-le-mul (f r) (g r) (product (map f rs)) (product (map g rs)) a b

  count_left : (q w : X → Bool) (us : List X) → count_by q (filter w us) ≤ count_by q us
  count_left q w us =
      let a = length-filter q (filter w us) in
      let b = length-filter q us in
      let c = kept us in
      omega (arith, a, b, c)
    where
      both : (c : Bool) (u : X) (xs ys : List X) → length xs ≤ length ys → length (cond c (u ∷ xs) xs) ≤ length (cond c (u ∷ ys) ys)
      both true u xs ys le = omega (arith, le)
      both false u xs ys le = le

      one : (c : Bool) (u : X) (xs ys : List X) → length xs ≤ length ys → length xs ≤ length (cond c (u ∷ ys) ys)
      one true u xs ys le = omega (arith, le)
      one false u xs ys le = le

      kept : (us : List X) → length (filter q (filter w us)) ≤ length (filter q us)
      kept [] = omega arith
      kept (u ∷ us) = elim (w u) as (λ b. length (filter q (cond b (u ∷ filter w us) (filter w us))) ≤ length (cond (q u) (u ∷ filter q us) (filter q us))) [
        | true ↦ both (q u) u (filter q (filter w us)) (filter q us) (kept us)
        | false ↦ one (q u) u (filter q (filter w us)) (filter q us) (kept us)
      ]

  -- there are no more than the ways of all classes together
  pub few_spreads : (ts : List X) (rs us : List X) → ((r : X) → Contains rs r → 1 ≤ length (places r)) → ((q : X → Bool) → count_by q us ≤ count_by q ts) →
      length (all_spreads same places rs us) ≤ product (map (λ r. ways (count_by (same r) ts) (length (places r))) rs)
  few_spreads ts [] us some fewer = omega arith
  few_spreads ts (r ∷ rs) us some fewer =
      let whole = length_products (spreads (count_by (same r) us) (places r)) (all_spreads same places rs (filter (λ u. not (same r u)) us)) in
      let own = length_spreads (count_by (same r) us) (places r) in
      let rest = few_spreads ts rs (filter (λ u. not (same r u)) us) (λ x c. some x (is_later r rs x c))
      (λ q. let a = count_left q (λ u. not (same r u)) us in let b = fewer q in omega (arith, a, b)) in
      let more = ways_at_most (count_by (same r) us) (count_by (same r) ts) (length (places r)) (some r (is_first r rs)) (fewer (same r)) in
      let less : length (spreads (count_by (same r) us) (places r)) ≤ ways (count_by (same r) ts) (length (places r)) = omega (arith, own, more) in
      let both = mul-le-mul (length (spreads (count_by (same r) us) (places r))) (ways (count_by (same r) ts) (length (places r)))
      (length (all_spreads same places rs (filter (λ u. not (same r u)) us))) (product (map (λ x. ways (count_by (same x) ts) (length (places x))) rs)) less rest in
      omega (arith, whole, both)
