-- Runs of triples of one predicate in the order of a neighbourhood, and that what is passed over with them is not relevant.
use Rattle.std.proofs.Common.{◌≡◌, ℕ, zero, suc, ◌+◌, ◌-◌, ◌<◌, ◌≤◌, length, get_or, drop, List, [], ◌∷◌, ◌++◌, refl, arith, ap, sym, subst, ◌∙◌, Bool, true, false, true≢false, cond, filter, not, nat_eq}
use Rattle.std.proofs.Math.Seq.{get_or-append_right}
use Rattle.std.proofs.lemmas.List.{drop_more, get_or_append_left, length-append}
use Rattle.std.proofs.lemmas.Option.{get_or_from_slice_get, slice_get-get_or}
use Rattle.std.specs.Cmp.{IsTotalOrder}
use Rattle.std.specs.Cmp.Lexicographic.{slice_cmp}
use Rattle.std.specs.FinMap.{nat_cmp-IsAntisymmetric}
use Rattle.std.specs.List.{list_any}
use Rattle.std.specs.Ordering.{is_lt, nat_cmp, ordering_reverse, ordering_then}
use Rattle.std.specs.declared.cmp.Ordering.{Ordering}
use Rattle.std.specs.declared.cmp.Ordering.TheVariants.{Less, Equal, Greater}
use Rattle.std.specs.Prelude.{◌&&◌, ◌||◌, Some, option_map, slice_get}
use Rattle.rdf_terms.specs.declared.terms.Term.{Term}
use Rattle.rdf_terms.specs.declared.terms.TermId.{TermId}
use Rattle.rdf_terms.specs.declared.terms.Triple.{Triple}
use Rattle.rdf_terms.specs.Graphs.{ins, is_loop, outs, same_id}
use Rattle.rdf_terms.specs.Order.{by_object, by_subject, compare_at, neighbourhood, text_at}
use Rattle.rdf_terms.proofs.Orders.{id_total, object_total, subject_total}
use Rattle.lists.specs.Sorting.{sorted_by}
use Rattle.lists.proofs.Sorting.{filter_sorted_by, lower, rises_far, rises_sorted, weak}
use Rattle.graph_index.specs.Edits.{IsGrouped}
use Rattle.schema_tree.specs.declared.schema.Occurrence.{Occurrence}
use Rattle.schema_tree.specs.Matches.{near_end}
use Rattle.schema_tree.specs.Relevant.{is_relevant}
use Rattle.bag_match.specs.Lent.{AreRuns, predicate_at}

-- ---- triples in an order by predicate first

id_is : (a b : TermId) → a.0 ≡ b.0 → a ≡ b
id_is a b e = λ i. record { 0 = e i }

second_equal : (r s : Ordering) → ordering_then r s ≡ Equal → s ≡ Equal
second_equal Less s e = cc
second_equal Equal s e = e
second_equal Greater s e = cc

first_not : (r s : Ordering) → is_lt (ordering_then r s) ≡ false → is_lt r ≡ false
first_not Less s h = h
first_not Equal s h = refl
first_not Greater s h = refl

id_alone : (terms : List Term) (a b : TermId) → compare_at terms a b ≡ Equal → a.0 ≡ b.0
id_alone terms a b e = nat_cmp-IsAntisymmetric a.0 b.0 (second_equal (slice_cmp nat_cmp (text_at terms a) (text_at terms b)) (nat_cmp a.0 b.0) e)

between : (terms : List Term) (a b c : TermId) → is_lt (compare_at terms b a) ≡ false → is_lt (compare_at terms c b) ≡ false → a.0 ≡ c.0 → b.0 ≡ c.0
between terms a b c h k e = by (compare_at terms b c) refl
  where
    low : is_lt (compare_at terms b c) ≡ false
    low = ap (λ (z : TermId). is_lt (compare_at terms b z)) (sym (id_is a c e)) ∙ h

    by : (r : Ordering) → compare_at terms b c ≡ r → b.0 ≡ c.0
    by Less q = absurd (true≢false (sym (ap is_lt q) ∙ low))
    by Equal q = id_alone terms b c q
    by Greater q = absurd (true≢false (sym (ap is_lt ((id_total terms).antisymm c b ∙ ap ordering_reverse q)) ∙ k))

module _ (terms : List Term) (order across : Triple → Triple → Ordering) (total : IsTotalOrder order)
    (first : (a b : Triple) → order a b ≡ ordering_then (compare_at terms a.p b.p) (across a b)) (ts : List Triple) where
  abbrev row : Triple → ℕ → Triple
  row d i = get_or (sorted_by order ts) i d

  falls : (d : Triple) (m n : ℕ) → m ≤ n → n < length (sorted_by order ts) → is_lt (compare_at terms (row d n).p (row d m).p) ≡ false
  falls d m n x y =
      first_not (compare_at terms (row d n).p (row d m).p) (across (row d n) (row d m))
      (ap is_lt (sym (first (row d n) (row d m))) ∙ rises_far (lower order total) (weak order total) (sorted_by order ts) (rises_sorted order total ts) m n d x y)

  grouped : IsGrouped (sorted_by order ts)
  grouped i j k d a b l e = between terms (row d i).p (row d j).p (row d k).p (falls d i j a (omega (arith, b, l))) (falls d j k b l) e

-- ---- the two parts of a neighbourhood

front_runs : (xs ys : List Triple) → IsGrouped xs → AreRuns (xs ++ ys) 0 (length xs)
front_runs xs ys h i j k d z a b l e =
    at j (omega (arith, b, l)) ∙ h i j k d a b l (sym (at i (omega (arith, a, b, l))) ∙ e ∙ at k l) ∙ sym (at k l)
  where
    at : (m : ℕ) → m < length xs → (get_or (xs ++ ys) m d).p.0 ≡ (get_or xs m d).p.0
    at m lt = ap (λ (t : Triple). t.p.0) (get_or_append_left xs ys d m lt)

back_runs : (xs ys : List Triple) → IsGrouped ys → (end : ℕ) → end ≤ length (xs ++ ys) → AreRuns (xs ++ ys) (length xs) end
back_runs xs ys h end within i j k d z a b l e =
    let long = length-append xs ys in
    at j (omega (arith, z, a))
    ∙ h (i - length xs) (j - length xs) (k - length xs) d (omega (arith, z, a)) (omega (arith, z, a, b)) (omega (arith, z, a, b, l, within, long))
    (sym (at i z) ∙ e ∙ at k (omega (arith, z, a, b)))
    ∙ sym (at k (omega (arith, z, a, b)))
  where
    at : (m : ℕ) → length xs ≤ m → (get_or (xs ++ ys) m d).p.0 ≡ (get_or ys (m - length xs) d).p.0
    at m ge = ap (λ (t : Triple). t.p.0) (get_or-append_right xs ys m d ge)

module _ (terms : List Term) (g : List Triple) (n : TermId) where
  outs_grouped : IsGrouped (sorted_by (by_object terms) (outs g n))
  outs_grouped = grouped terms (by_object terms) (λ a b. compare_at terms a.o b.o) (object_total terms) (λ a b. refl) (outs g n)

  ins_grouped : IsGrouped (filter (λ t. not (is_loop t)) (sorted_by (by_subject terms) (ins g n)))
  ins_grouped =
      subst IsGrouped (sym (filter_sorted_by (by_subject terms) (subject_total terms) (λ t. not (is_loop t)) (ins g n)))
      (grouped terms (by_subject terms) (λ a b. compare_at terms a.s b.s) (subject_total terms) (λ a b. refl) (filter (λ t. not (is_loop t)) (ins g n)))

  module _ (near outward : List Triple) (count : ℕ) (whole : near ≡ neighbourhood terms g n) (first : outward ≡ sorted_by (by_object terms) (outs g n)) (is : count ≡ length outward) where
    many : count ≡ length (sorted_by (by_object terms) (outs g n))
    many = is ∙ ap (λ z. length z) first

    -- the arcs out
    pub runs_out : AreRuns near 0 count
    runs_out =
        subst (λ z. AreRuns z 0 count) (sym whole) (subst (λ k. AreRuns (neighbourhood terms g n) 0 k) (sym many)
        (front_runs (sorted_by (by_object terms) (outs g n)) (filter (λ t. not (is_loop t)) (sorted_by (by_subject terms) (ins g n))) outs_grouped))

    -- the arcs in
    pub runs_in : (end : ℕ) → end ≤ length near → AreRuns near count end
    runs_in end within =
        subst (λ z. AreRuns z count end) (sym whole) (subst (λ k. AreRuns (neighbourhood terms g n) k end) (sym many)
        (back_runs (sorted_by (by_object terms) (outs g n)) (filter (λ t. not (is_loop t)) (sorted_by (by_subject terms) (ins g n))) ins_grouped end
        (subst (λ z. end ≤ length z) whole within)))

    pub outs_within : count ≤ length near
    outs_within =
        let long = length-append (sorted_by (by_object terms) (outs g n)) (filter (λ t. not (is_loop t)) (sorted_by (by_subject terms) (ins g n))) in
        let same : length near ≡ length (neighbourhood terms g n) = ap (λ z. length z) whole in
        let held = many in
        omega (arith, long, same, held)

-- ---- what is passed over

-- a triple of a predicate that no occurrence has is not relevant
unnamed : (occs : List Occurrence) (n : TermId) (t : Triple) → list_any (λ o. same_id o.predicate t.p) occs ≡ false → is_relevant occs n t ≡ false
unnamed [] n t h = refl
unnamed (o ∷ occs) n t h = go (same_id o.predicate t.p) h (unnamed occs n t)
  where
    go : (b : Bool) → (b || list_any (λ o. same_id o.predicate t.p) occs) ≡ false → (list_any (λ o. same_id o.predicate t.p) occs ≡ false → is_relevant occs n t ≡ false) →
        ((b && same_id (near_end o.inverse t) n) || is_relevant occs n t) ≡ false
    go true bad deeper = absurd (true≢false bad)
    go false others deeper = deeper others

passed : (p : Triple → Bool) (ts : List Triple) (d : Triple) (i count : ℕ) → i + count ≤ length ts → ((j : ℕ) → i ≤ j → j < i + count → p (get_or ts j d) ≡ false) →
    filter p (drop i ts) ≡ filter p (drop (i + count) ts)
passed p ts d i zero le none = ap (λ k. filter p (drop k ts)) (let e : i ≡ i + 0 = omega arith in e)
passed p ts d i (suc c) le none =
    ap (λ z. filter p z) (drop_more ts i d (omega (arith, le)))
    ∙ ap (λ b. cond b (get_or ts i d ∷ filter p (drop (i + 1) ts)) (filter p (drop (i + 1) ts))) (none i (omega arith) (omega arith))
    ∙ passed p ts d (i + 1) c (omega (arith, le)) (λ j ge lt. none j (omega (arith, ge)) (omega (arith, lt)))
    ∙ ap (λ k. filter p (drop k ts)) (let e : (i + 1) + c ≡ i + suc c = omega arith in e)

pub one_passed : (p : Triple → Bool) (ts : List Triple) (i : ℕ) (t : Triple) → i < length ts → slice_get ts i ≡ Some t → p t ≡ false → filter p (drop i ts) ≡ filter p (drop (i + 1) ts)
one_passed p ts i t lt at fails = passed p ts t i 1 (omega (arith, lt)) (λ j ge below.
    ap (λ k. p (get_or ts k t)) (let e : j ≡ i = omega (arith, ge, below) in e) ∙ ap p (get_or_from_slice_get ts i t t at) ∙ fails)

number_is : (x y : ℕ) → Some x ≡ Some y → x ≡ y
number_is x y e = cc

module _ (occs : List Occurrence) (n : TermId) (ts : List Triple) (at last end : ℕ) (t : Triple) (from : at ≤ last) (before : last < end) (within : end ≤ length ts)
    (runs : AreRuns ts at end) (here : slice_get ts at ≡ Some t) (none : list_any (λ o. same_id o.predicate t.p) occs ≡ false) (alike : predicate_at ts last ≡ predicate_at ts at) where
  number_at : (i : ℕ) → i < length ts → predicate_at ts i ≡ Some ((get_or ts i t).p.0)
  number_at i lt = ap (λ o. option_map (λ (u : Triple). u.p.0) o) (slice_get-get_or ts i t lt)

  ends_alike : (get_or ts at t).p.0 ≡ (get_or ts last t).p.0
  ends_alike = number_is _ _ (sym (number_at at (omega (arith, from, before, within))) ∙ sym alike ∙ number_at last (omega (arith, before, within)))

  each_alike : (j : ℕ) → at ≤ j → j ≤ last → t.p.0 ≡ (get_or ts j t).p.0
  each_alike j ge le =
      ap (λ (u : Triple). u.p.0) (sym (get_or_from_slice_get ts at t t here)) ∙ ends_alike ∙ sym (runs at j last t (omega arith) ge le before ends_alike)

  none_there : (j : ℕ) → at ≤ j → j ≤ last → is_relevant occs n (get_or ts j t) ≡ false
  none_there j ge le = unnamed occs n (get_or ts j t) (ap (λ k. list_any (λ o. nat_eq o.predicate.0 k) occs) (sym (each_alike j ge le)) ∙ none)

  pub run_passed : filter (is_relevant occs n) (drop at ts) ≡ filter (is_relevant occs n) (drop (last + 1) ts)
  run_passed =
      passed (is_relevant occs n) ts t at (last + 1 - at) (omega (arith, from, before, within)) (λ j ge lt. none_there j ge (omega (arith, lt, from)))
      ∙ ap (λ k. filter (is_relevant occs n) (drop k ts)) (let e : at + (last + 1 - at) ≡ last + 1 = omega (arith, from) in e)
