-- The product over the first of each class is that over tests of which each item passes just one.
use Rattle.std.proofs.Common.{◌≡◌, ℕ, ◌*◌, inl, inr, List, [], ◌∷◌, length, map, filter, not, refl, ap, sym, subst, ◌∙◌, Bool, true, false, true≢false, cond, mul_assoc, mul_left_comm, mul-one}
use Rattle.std.proofs.lemmas.List.Sums.{length-filter}
use Rattle.std.specs.Prelude.{Contains, count_by}
use Rattle.rdf_terms.specs.declared.terms.Triple.{Triple}
use Rattle.schema_tree.specs.Width.{product, firsts}
use Rattle.lists.proofs.Filters.{filter_all, filter_comm, filter_none, in_filter}
use Rattle.lists.proofs.Members.{in_rest, is_first, is_later, not_in_none}

-- ---- filters

-- of two tests, where the first passes only where the second does, the second takes nothing away
count_within : {X : Type 0} (p q : X → Bool) (xs : List X) → ((x : X) → Contains xs x → p x ≡ true → q x ≡ true) → count_by p (filter q xs) ≡ count_by p xs
count_within p q xs within =
    sym (length-filter p (filter q xs)) ∙ ap (λ zs. length zs) (filter_comm p q xs ∙ filter_all q (filter p xs) (λ x c. let (h, e) = in_filter p xs x c in within x h e)) ∙ length-filter p xs

not_both : (b : Bool) → (b ≡ true → ⊥) → b ≡ false
not_both true h = absurd (h refl)
not_both false h = refl

-- ---- products

map_alike : {X : Type 0} (f g : X → ℕ) (xs : List X) → ((x : X) → Contains xs x → f x ≡ g x) → map f xs ≡ map g xs
map_alike f g [] same = refl
map_alike f g (x ∷ xs) same =
    ap (λ k. k ∷ map f xs) (same x (is_first x xs)) ∙ ap (λ zs. g x ∷ zs) (map_alike f g xs (λ y c. same y (is_later x xs y c)))

product_splits : {X : Type 0} (f : X → ℕ) (p : X → Bool) (xs : List X) →
    product (map f xs) ≡ product (map f (filter p xs)) * product (map f (filter (λ x. not (p x)) xs))
product_splits f p [] = refl
product_splits f p (x ∷ xs) = go (p x) (product_splits f p xs)
  where
    a : ℕ
    a = product (map f (filter p xs))

    b : ℕ
    b = product (map f (filter (λ y. not (p y)) xs))

    go : (c : Bool) → product (map f xs) ≡ a * b →
        f x * product (map f xs) ≡ product (map f (cond c (x ∷ filter p xs) (filter p xs))) * product (map f (cond (not c) (x ∷ filter (λ y. not (p y)) xs) (filter (λ y. not (p y)) xs)))
    go true h = ap (λ k. f x * k) h ∙ sym (mul_assoc (f x) a b)
    go false h = ap (λ k. f x * k) h ∙ mul_left_comm (f x) a b

module _ (same : Triple → Triple → Bool) (G : Triple → ℕ → ℕ) where
  -- the factor of each class
  abbrev factor : List Triple → Triple → ℕ
  factor ts r = G r (count_by (same r) ts)

  abbrev whole : List Triple → ℕ
  whole ts = product (map (factor ts) (firsts same ts))

  in_firsts : (ts : List Triple) (r : Triple) → Contains (firsts same ts) r → Contains ts r
  in_firsts [] r c = c
  in_firsts (t ∷ ts) r c = elim (in_rest t (filter (λ u. not (same t u)) (firsts same ts)) r c) [
    | inl e ↦ subst (λ z. Contains (t ∷ ts) z) e (is_first t ts)
    | inr later ↦ is_later t ts r (in_firsts ts r (in_filter (λ u. not (same t u)) (firsts same ts) r later).0)
  ]

  -- the test does not tell items of one class apart
  abbrev IsClassed : (Triple → Bool) → List Triple → Type 0
  IsClassed p ts = (t u : Triple) → Contains ts t → Contains ts u → same t u ≡ true → p t ≡ p u

  -- the first of each class that passes is the first of each class of those that pass
  firsts_filter : (p : Triple → Bool) (ts : List Triple) → IsClassed p ts → filter p (firsts same ts) ≡ firsts same (filter p ts)
  firsts_filter p [] classed = refl
  firsts_filter p (t ∷ ts) classed = go (p t) refl (firsts_filter p ts (λ a b c d. classed a b (is_later t ts a c) (is_later t ts b d)))
    where
      apart : Triple → Bool
      apart u = not (same t u)

      go : (b : Bool) → p t ≡ b → filter p (firsts same ts) ≡ firsts same (filter p ts) →
          cond b (t ∷ filter p (filter (λ u. not (same t u)) (firsts same ts))) (filter p (filter (λ u. not (same t u)) (firsts same ts))) ≡ firsts same (cond b (t ∷ filter p ts) (filter p ts))
      go true e h = ap (λ zs. t ∷ zs) (filter_comm p (λ u. not (same t u)) (firsts same ts) ∙ ap (λ zs. filter (λ u. not (same t u)) zs) h)
      go false e h =
          filter_comm p (λ u. not (same t u)) (firsts same ts)
          ∙ filter_all (λ u. not (same t u)) (filter p (firsts same ts)) other
          ∙ h
        where
          other : (x : Triple) → Contains (filter p (firsts same ts)) x → not (same t x) ≡ true
          other x c =
              let (held, passes) = in_filter p (firsts same ts) x c in
              let far : same t x ≡ false = not_both (same t x) (λ s. true≢false (sym passes ∙ sym (classed t x (is_first t ts) (is_later t ts x (in_firsts ts x held)) s) ∙ e)) in
              ap not far

  -- the whole is that of those that pass, and that of the others
  whole_splits : (p : Triple → Bool) (ts : List Triple) → IsClassed p ts → whole ts ≡ whole (filter p ts) * whole (filter (λ t. not (p t)) ts)
  whole_splits p ts classed =
      product_splits (factor ts) p (firsts same ts)
      ∙ ap (λ k. k * product (map (factor ts) (filter (λ t. not (p t)) (firsts same ts)))) (part p classed)
      ∙ ap (λ k. whole (filter p ts) * k) (part (λ t. not (p t)) (λ a b c d s. ap not (classed a b c d s)))
    where
      part : (q : Triple → Bool) → IsClassed q ts → product (map (factor ts) (filter q (firsts same ts))) ≡ whole (filter q ts)
      part q fine =
          ap (λ zs. product zs) (map_alike (factor ts) (factor (filter q ts)) (filter q (firsts same ts)) (λ r c. ap (λ k. G r k) (sym (own r c))))
          ∙ ap (λ zs. product (map (factor (filter q ts)) zs)) (firsts_filter q ts fine)
        where
          own : (r : Triple) → Contains (filter q (firsts same ts)) r → count_by (same r) (filter q ts) ≡ count_by (same r) ts
          own r c =
              let (held, passes) = in_filter q (firsts same ts) r c in
              count_within (same r) q ts (λ u d s. sym (fine r u (in_firsts ts r held) d s) ∙ passes)

  -- a list of one class
  whole_one : (t : Triple) (ts : List Triple) → ((u : Triple) → Contains (t ∷ ts) u → same t u ≡ true) → whole (t ∷ ts) ≡ G t (length (t ∷ ts))
  whole_one t ts all =
      ap (λ zs. product (map (factor (t ∷ ts)) (t ∷ zs))) (filter_none (λ u. not (same t u)) (firsts same ts) (λ u c. ap not (all u (is_later t ts u (in_firsts ts u c)))))
      ∙ mul-one (factor (t ∷ ts) t)
      ∙ ap (λ k. G t k) (sym (length-filter (same t) (t ∷ ts)) ∙ ap (λ zs. length zs) (filter_all (same t) (t ∷ ts) all))

  -- the tests ks, with the factor of each: each item passes just one, by which it is told apart from other classes
  module _ {K : Type 0} (test : K → Triple → Bool) (H : K → ℕ → ℕ) (empty : (k : K) → H k 0 ≡ 1) where
    pub record AreTests (ks : List K) (ts : List Triple) : Type 0 where
      pub classes : (k : K) → Contains ks k → (t u : Triple) → Contains ts t → Contains ts u → test k t ≡ true → same t u ≡ test k u
      pub factors : (k : K) → Contains ks k → (t : Triple) → Contains ts t → test k t ≡ true → (d : ℕ) → G t d ≡ H k d
      pub some : (t : Triple) → Contains ts t → (k : K) × Contains ks k × (test k t ≡ true)

    -- of two tests no item passes both
    abbrev pub AreApartOn : List Triple → List K → Type 0
    AreApartOn ts [] = Unit {0}
    AreApartOn ts (k ∷ ks) = ((j : K) → Contains ks j → (t : Triple) → Contains ts t → test k t ≡ true → test j t ≡ false) × AreApartOn ts ks

    apart_fewer : (ts us : List Triple) → ((t : Triple) → Contains us t → Contains ts t) → (ks : List K) → AreApartOn ts ks → AreApartOn us ks
    apart_fewer ts us fewer [] apart = tt
    apart_fewer ts us fewer (k ∷ ks) apart = ((λ j c t d. apart.0 j c t (fewer t d)), apart_fewer ts us fewer ks apart.1)

    pub tests_product : (ks : List K) (ts : List Triple) → AreApartOn ts ks → AreTests ks ts → whole ts ≡ product (map (λ k. H k (count_by (test k) ts)) ks)
    tests_product [] [] apart tests = refl
    tests_product [] (t ∷ ts) apart tests = let (k, c, e) = tests.some t (is_first t ts) in absurd (not_in_none k c)
    tests_product (k ∷ ks) ts apart tests =
        whole_splits (test k) ts classed
        ∙ ap (λ m. m * whole others) (one (filter (test k) ts) refl)
        ∙ ap (λ m. H k (count_by (test k) ts) * m) (tests_product ks others (apart_fewer ts others (λ t c. (in_filter (λ u. not (test k u)) ts t c).0) ks apart.1) fewer
        ∙ ap (λ zs. product zs) (map_alike (λ j. H j (count_by (test j) others)) (λ j. H j (count_by (test j) ts)) ks (λ j c. ap (λ m. H j m) (own j c))))
      where
        others : List Triple
        others = filter (λ u. not (test k u)) ts

        classed : IsClassed (test k) ts
        classed t u c d s = go (test k t) refl (test k u) refl
          where
            go : (a : Bool) → test k t ≡ a → (b : Bool) → test k u ≡ b → test k t ≡ test k u
            go true e b f = e ∙ sym s ∙ tests.classes k (is_first k ks) t u c d e
            go false e false f = e ∙ sym f
            go false e true f =
                let (j, h, g) = tests.some t c in
                elim (in_rest k ks j h) [
                  | inl is ↦ absurd (true≢false (sym (subst (λ z. test z t ≡ true) (sym is) g) ∙ e))
                  | inr later ↦ absurd (true≢false (sym s ∙ tests.classes j h t u c d g ∙ apart.0 j later u d f))
                ]

        one : (us : List Triple) → filter (test k) ts ≡ us → whole us ≡ H k (count_by (test k) ts)
        one [] is = sym (empty k) ∙ ap (λ m. H k m) (sym (ap (λ zs. length zs) is) ∙ length-filter (test k) ts)
        one (t ∷ us) is =
            whole_one t us (λ u c. tests.classes k (is_first k ks) t u (inside t (is_first t us)).0 (inside u c).0 (inside t (is_first t us)).1 ∙ (inside u c).1)
            ∙ tests.factors k (is_first k ks) t (inside t (is_first t us)).0 (inside t (is_first t us)).1 (length (t ∷ us))
            ∙ ap (λ m. H k m) (sym (ap (λ zs. length zs) is) ∙ length-filter (test k) ts)
          where
            inside : (u : Triple) → Contains (t ∷ us) u → Contains ts u × (test k u ≡ true)
            inside u c = in_filter (test k) ts u (subst (λ zs. Contains zs u) (sym is) c)

        own : (j : K) → Contains ks j → count_by (test j) others ≡ count_by (test j) ts
        own j c = count_within (test j) (λ u. not (test k u)) ts (λ t d e. ap not (not_both (test k t) (λ f. true≢false (sym e ∙ apart.0 j c t d f))))

        whole_has : (t : Triple) → Contains others t → Contains ts t
        whole_has t c = (in_filter (λ u. not (test k u)) ts t c).0

        fewer : AreTests ks others
        fewer = record {
          classes = λ j c t u d e. tests.classes j (is_later k ks j c) t u (whole_has t d) (whole_has u e);
          factors = λ j c t d. tests.factors j (is_later k ks j c) t (whole_has t d);
          some = λ t d. let (j, c, e) = tests.some t (whole_has t d) in elim (in_rest k ks j c) [
            | inl is ↦ absurd (true≢false (sym (in_filter (λ u. not (test k u)) ts t d).1 ∙ ap not (subst (λ z. test z t ≡ true) (sym is) e)))
            | inr later ↦ (j, later, e)
          ];
        }
