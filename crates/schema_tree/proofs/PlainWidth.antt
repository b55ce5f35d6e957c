-- The product over the classes of a pair by form is 1 where its Shape has no inverse occurrence, no EXTRA and one occurrence for each predicate.
use Rattle.std.proofs.Common.{◌≡◌, ℕ, zero, suc, ◌+◌, ◌⊎◌, inl, inr, List, [], ◌∷◌, refl, arith, sym, subst, ap, ◌∙◌, Bool, true, false, cond, filter, map, not, true≢false}
use Rattle.std.proofs.lemmas.Bool.Decides.{nat_tests}
use Rattle.std.proofs.lemmas.List.Folds.{Any-from_list_any}
use Rattle.std.proofs.lemmas.List.Sums.{sum_by-cons}
use Rattle.std.proofs.lemmas.Option.{slice_get-get_or}
use Rattle.std.specs.Prelude.{◌&&◌, ◌||◌, Contains, Some, count_by}
use Rattle.std.specs.List.{list_any}
use Rattle.rdf_terms.specs.declared.terms.TermId.{TermId}
use Rattle.rdf_terms.specs.declared.terms.Triple.{Triple}
use Rattle.rdf_terms.specs.Graphs.{is_loop, neigh, same_id}
use Rattle.lists.specs.Distinct.{AreDistinct}
use Rattle.schema_tree.specs.declared.schema.Occurrence.{Occurrence}
use Rattle.schema_tree.specs.declared.schema.Pair.{Pair}
use Rattle.schema_tree.specs.declared.schema.Schema.{Schema}
use Rattle.schema_tree.specs.declared.schema.Shape.{Shape}
use Rattle.schema_tree.specs.Entries.{shape_at}
use Rattle.schema_tree.specs.Matches.{fits, near_end}
use Rattle.schema_tree.specs.Relevant.{is_forward, is_relevant, relevant}
use Rattle.schema_tree.specs.Width.{IsPlain, coarse, coarse_of, coarse_over, firsts, is_open, places_for, product, same_class, ways}
use Rattle.lists.proofs.Members.{any_true, in_map, in_rest, is_first, is_later}
use Rattle.lists.proofs.Filters.{in_filter}
use Rattle.std.proofs.lemmas.Bool.{and_parts}
use Rattle.rdf_terms.proofs.SameTerms.{same_is}

-- one place takes things in one way
ways_one : (d : ℕ) → ways d 1 ≡ 1
ways_one zero = refl
ways_one (suc d) = let e = ways_one d in omega arith

-- the first of distinct items does not come again
not_again : {X : Type 0} (x : X) (xs : List X) → AreDistinct (x ∷ xs) → ¬ Contains xs x
not_again x xs distinct (k, within, at) =
    let e : 0 ≡ suc k = distinct 0 (suc k) x refl (slice_get-get_or xs k x within ∙ ap (λ y. Some y) at) in absurd (omega arith)

-- and those after it are distinct
rest_distinct : {X : Type 0} (x : X) (xs : List X) → AreDistinct (x ∷ xs) → AreDistinct xs
rest_distinct x xs distinct i j y a b = let e : suc i ≡ suc j = distinct (suc i) (suc j) y a b in omega arith

-- an item that a test finds
found_by : {X : Type 0} (test : X → Bool) (xs : List X) → list_any test xs ≡ true → (x : X) × Contains xs x × (test x ≡ true)
found_by test xs e = let (k, x, within, at, passes) = Any-from_list_any test xs e in (x, (k, within, at), passes)

module _ (n : TermId) (t : Triple) where
  abbrev fit : Occurrence → Bool
  fit o = fits o n t

  -- of occurrences with distinct predicates at most one fits
  count_one : (occs : List Occurrence) → AreDistinct (map (λ o. o.predicate) occs) → count_by fit occs ≡ cond (list_any fit occs) 1 0
  count_one [] distinct = refl
  count_one (o ∷ os) distinct =
      sum_by-cons (λ u. cond (fit u) 1 0) o os
      ∙ go (fit o) refl (list_any fit os) refl (count_one os (rest_distinct o.predicate (map (λ u. u.predicate) os) distinct))
    where
      clash : fit o ≡ true → list_any fit os ≡ true → ⊥
      clash here there =
          let (u, held, fitting) = found_by fit os there in
          let a : o.predicate ≡ t.p = same_is o.predicate t.p (and_parts (same_id o.predicate t.p) (same_id (near_end o.inverse t) n) here).0 in
          let b : u.predicate ≡ t.p = same_is u.predicate t.p (and_parts (same_id u.predicate t.p) (same_id (near_end u.inverse t) n) fitting).0 in
          not_again o.predicate (map (λ v. v.predicate) os) distinct (subst (λ p. Contains (map (λ v. v.predicate) os) p) (b ∙ sym a) (in_map (λ v. v.predicate) os u held))

      go :
          (b : Bool) → fit o ≡ b → (c : Bool) → list_any fit os ≡ c → count_by fit os ≡ cond c 1 0 →
          cond b 1 0 + count_by fit os ≡ cond (b || c) 1 0
      go true here true there e = absurd (clash here there)
      go true here false there e = omega arith
      go false here true there e = omega arith
      go false here false there e = omega arith

module _ (sh : Shape) (n : TermId) where
  -- the first of each class are among the triples
  first_in : (ts : List Triple) (t : Triple) → Contains (firsts (same_class n) ts) t → Contains ts t
  first_in [] t c = c
  first_in (u ∷ us) t c = go (in_rest u (filter (λ v. not (same_class n u v)) (firsts (same_class n) us)) t c) (first_in us t)
    where
      go :
          (u ≡ t) ⊎ Contains (filter (λ v. not (same_class n u v)) (firsts (same_class n) us)) t →
          (Contains (firsts (same_class n) us) t → Contains us t) → Contains (u ∷ us) t
      go (inl same) deeper = subst (λ v. Contains (u ∷ us) v) same (is_first u us)
      go (inr later) deeper = is_later u us t (deeper (in_filter (λ v. not (same_class n u v)) (firsts (same_class n) us) t later).0)

  -- a product of ones
  all_ones : (f : Triple → ℕ) (ts : List Triple) → ((t : Triple) → Contains ts t → f t ≡ 1) → product (map f ts) ≡ 1
  all_ones f [] one = refl
  all_ones f (t ∷ ts) one =
      let a = one t (is_first t ts) in
      let b = all_ones f ts (λ u c. one u (is_later t ts u c)) in
      rw (a, b) refl

  -- where each triple has one place, the product is 1
  pub one_over : (ts : List Triple) → ((t : Triple) → Contains ts t → places_for sh n t ≡ 1) → coarse_over sh n ts ≡ 1
  one_over ts one =
      all_ones (λ t. ways (count_by (same_class n t) ts) (places_for sh n t)) (firsts (same_class n) ts)
      (λ t c. ap (ways (count_by (same_class n t) ts)) (one t (first_in ts t c)) ∙ ways_one (count_by (same_class n t) ts))

module _ (sh : Shape) (plain : IsPlain sh) (n : TermId) where
  -- a relevant triple has one place
  one_place : (t : Triple) → is_relevant sh.occs n t ≡ true → places_for sh n t ≡ 1
  one_place t is =
      let count : count_by (fit n t) sh.occs ≡ 1 = count_one n t sh.occs plain.apart ∙ ap (λ b. cond b 1 0) is in
      ap (λ k. k + cond (is_open sh n t) 1 0) count ∙ ap (λ b. 1 + cond b 1 0) shut
    where
      forward_fits : (o : Occurrence) → Contains sh.occs o → fits o n t ≡ true → is_forward n t o ≡ true
      forward_fits o held fitting = go o.inverse (plain.forward o held) fitting
        where
          go : (b : Bool) → b ≡ false → fits o n t ≡ true → not b && fits o n t ≡ true
          go true e f = absurd (true≢false e)
          go false e f = f

      found : (o : Occurrence) × Contains sh.occs o × (fits o n t ≡ true)
      found = found_by (λ o. fits o n t) sh.occs is

      taken : list_any (is_forward n t) sh.occs ≡ true
      taken = any_true (is_forward n t) sh.occs found.0 found.1 (forward_fits found.0 found.1 found.2)

      from_here : same_id t.s n ≡ true
      from_here =
          subst (λ b. same_id (near_end b t) n ≡ true) (plain.forward found.0 found.1)
          (and_parts (same_id found.0.predicate t.p) (same_id (near_end found.0.inverse t) n) found.2).1

      no_extra : list_any (λ p. same_id p t.p) sh.extra ≡ false
      no_extra = ap (λ ps. list_any (λ p. same_id p t.p) ps) plain.no_extra

      shut : is_open sh n t ≡ false
      shut = go (same_id t.o n) refl (is_loop t) refl
        where
          go :
              (a : Bool) → same_id t.o n ≡ a → (b : Bool) → is_loop t ≡ b →
              (a && not b) || (same_id t.s n && (list_any (λ p. same_id p t.p) sh.extra || not (list_any (is_forward n t) sh.occs))) ≡ false
          go true to_here true loop = rw (from_here, no_extra, taken) refl
          go true to_here false loop = absurd (let bad : ⊥ = grind (arith, nat_tests, from_here, to_here, loop) in bad)
          go false to_here b loop = rw (from_here, no_extra, taken) refl

  plain_over : (ts : List Triple) → ((t : Triple) → Contains ts t → is_relevant sh.occs n t ≡ true) → coarse_over sh n ts ≡ 1
  plain_over ts rel = one_over sh n ts (λ t c. one_place t (rel t c))

pub plain_coarse : (s : Schema) (g : List Triple) (p : Pair) (sh : Shape) → shape_at s p.shape ≡ Some sh → IsPlain sh → coarse s g p ≡ 1
plain_coarse s g p sh is plain =
    ap (λ x. coarse_of x g p.node) is
    ∙ plain_over sh plain p.node (relevant sh.occs g p.node) (λ t c. (in_filter (is_relevant sh.occs p.node) (neigh g p.node) t c).1)
