-- The later triples that an occurrence fits, counted in the slices that a graph lends.
use Rattle.std.proofs.Common.{◌≡◌, ℕ, suc, ◌+◌, ◌-◌, ◌<◌, ◌≤◌, inl, inr, length, get_or, List, [], ◌∷◌, ◌++◌, drop, filter, not, refl, arith, ap, sym, subst, ◌∙◌, Bool, true, false, true≢false, cond}
use Rattle.std.proofs.Math.Seq.{drop-append-add}
use Rattle.std.proofs.lemmas.Bool.{cases_lt}
use Rattle.std.proofs.lemmas.List.{drop-append-le, drop_all, drop_more}
use Rattle.std.proofs.lemmas.List.Elements.{filter-append}
use Rattle.std.specs.Prelude.{Contains, IsTrue, Option, Some, None, ◌↔◌, slice_get, slice_index}
use Rattle.rdf_terms.specs.declared.terms.TermId.{TermId}
use Rattle.rdf_terms.specs.declared.terms.Term.{Term}
use Rattle.rdf_terms.specs.declared.terms.Triple.{Triple}
use Rattle.rdf_terms.specs.Graphs.{ins, is_loop, outs}
use Rattle.rdf_terms.specs.Order.{by_object, by_subject}
use Rattle.lists.specs.Sorting.{sorted_by}
use Rattle.schema_tree.specs.declared.verdicts.State.{State}
use Rattle.tally.specs.Plan.{Plan}
use Rattle.tally.specs.Span.{HasSpan, span}
use Rattle.schema_tree.specs.declared.schema.Occurrence.{Occurrence}
use Rattle.schema_tree.specs.declared.schema.Shape.{Shape}
use Rattle.schema_tree.specs.Matches.{fits}
use Rattle.schema_tree.specs.Relevant.{is_relevant}
use Rattle.schema_tree.specs.States.{IsDeadBody, count_fits, fitting}
use Rattle.lists.proofs.Members.{any_true, got_in}
use Rattle.bag_match.specs.Later.{IsDeadOf, is_kept}

-- what an occurrence fits is relevant, so the relevant ones need not be picked out to be counted
pub fits_relevant : (occs : List Occurrence) (n : TermId) (o : Occurrence) → Contains occs o → (ts : List Triple) → count_fits o n (filter (is_relevant occs n) ts) ≡ count_fits o n ts
fits_relevant occs n o held [] = refl
fits_relevant occs n o held (t ∷ ts) = go (is_relevant occs n t) refl (fits o n t) refl (fits_relevant occs n o held ts)
  where
    go : (r : Bool) → is_relevant occs n t ≡ r → (f : Bool) → fits o n t ≡ f → count_fits o n (filter (is_relevant occs n) ts) ≡ count_fits o n ts →
        count_fits o n (cond r (t ∷ filter (is_relevant occs n) ts) (filter (is_relevant occs n) ts)) ≡ cond f (suc (count_fits o n ts)) (count_fits o n ts)
    go true e f g h = ap (λ b. cond b (suc (count_fits o n (filter (is_relevant occs n) ts))) (count_fits o n (filter (is_relevant occs n) ts))) g ∙ ap (λ k. cond f (suc k) k) h
    go false e true g h = absurd (true≢false (sym (any_true (λ z. fits z n t) occs o held g) ∙ e))
    go false e false g h = h

-- over two lists
pub fits_append : (n : TermId) (o : Occurrence) (xs ys : List Triple) → count_fits o n (xs ++ ys) ≡ count_fits o n xs + count_fits o n ys
fits_append n o [] ys = let e : count_fits o n ys ≡ 0 + count_fits o n ys = omega arith in e
fits_append n o (x ∷ xs) ys = go (fits o n x) (fits_append n o xs ys)
  where
    go : (b : Bool) → count_fits o n (xs ++ ys) ≡ count_fits o n xs + count_fits o n ys →
        cond b (suc (count_fits o n (xs ++ ys))) (count_fits o n (xs ++ ys)) ≡ cond b (suc (count_fits o n xs)) (count_fits o n xs) + count_fits o n ys
    go true h = let e : suc (count_fits o n (xs ++ ys)) ≡ suc (count_fits o n xs) + count_fits o n ys = omega (arith, h) in e
    go false h = h

-- one more of those that pass is behind
pub pass_yes : {X : Type 0} (p : X → Bool) (xs : List X) (i : ℕ) (d : X) → i < length xs → (left next : ℕ) → 1 ≤ left → next ≡ left - 1 → p (get_or xs i d) ≡ true →
    drop left (filter p (drop i xs)) ≡ drop next (filter p (drop (i + 1) xs))
pass_yes p xs i d within left next some is passes =
    ap (λ zs. drop left (filter p zs)) (drop_more xs i d within)
    ∙ ap (λ b. drop left (cond b (get_or xs i d ∷ filter p (drop (i + 1) xs)) (filter p (drop (i + 1) xs)))) passes
    ∙ ap (λ k. drop k (get_or xs i d ∷ filter p (drop (i + 1) xs))) (let e : left ≡ suc next = omega (arith, some, is) in e)

-- and none
pub pass_no : {X : Type 0} (p : X → Bool) (xs : List X) (i : ℕ) (d : X) → i < length xs → (left next : ℕ) → next ≡ left → p (get_or xs i d) ≡ false →
    drop left (filter p (drop i xs)) ≡ drop next (filter p (drop (i + 1) xs))
pass_no p xs i d within left next is fails =
    ap (λ zs. drop left (filter p zs)) (drop_more xs i d within)
    ∙ ap (λ b. drop left (cond b (get_or xs i d ∷ filter p (drop (i + 1) xs)) (filter p (drop (i + 1) xs)))) fails
    ∙ ap (λ k. drop k (filter p (drop (i + 1) xs))) (sym is)

-- how many are still to be passed
pub fewer_yes : {X : Type 0} (p : X → Bool) (xs : List X) (i : ℕ) (d : X) → i < length xs → (left next : ℕ) → 1 ≤ left → next ≡ left - 1 → p (get_or xs i d) ≡ true →
    next - length (filter p (drop (i + 1) xs)) ≡ left - length (filter p (drop i xs))
fewer_yes p xs i d within left next some is passes =
    let long : length (filter p (drop i xs)) ≡ suc (length (filter p (drop (i + 1) xs))) =
    ap (λ zs. length (filter p zs)) (drop_more xs i d within) ∙ ap (λ b. length (cond b (get_or xs i d ∷ filter p (drop (i + 1) xs)) (filter p (drop (i + 1) xs)))) passes in
    omega (arith, long, some, is)

pub fewer_no : {X : Type 0} (p : X → Bool) (xs : List X) (i : ℕ) (d : X) → i < length xs → (left next : ℕ) → next ≡ left → p (get_or xs i d) ≡ false →
    next - length (filter p (drop (i + 1) xs)) ≡ left - length (filter p (drop i xs))
fewer_no p xs i d within left next is fails =
    let long : length (filter p (drop i xs)) ≡ length (filter p (drop (i + 1) xs)) =
    ap (λ zs. length (filter p zs)) (drop_more xs i d within) ∙ ap (λ b. length (cond b (get_or xs i d ∷ filter p (drop (i + 1) xs)) (filter p (drop (i + 1) xs)))) fails in
    omega (arith, long, is)

-- the arcs in that are kept are the relevant ones that are no self-loops
kept_inward : (occs : List Occurrence) (n : TermId) (ts : List Triple) → filter (is_kept occs n true) ts ≡ filter (is_relevant occs n) (filter (λ t. not (is_loop t)) ts)
kept_inward occs n [] = refl
kept_inward occs n (t ∷ ts) = go (is_loop t) (kept_inward occs n ts)
  where
    go : (l : Bool) → filter (is_kept occs n true) ts ≡ filter (is_relevant occs n) (filter (λ t. not (is_loop t)) ts) →
        cond (cond l false (is_relevant occs n t)) (t ∷ filter (is_kept occs n true) ts) (filter (is_kept occs n true) ts)
        ≡ filter (is_relevant occs n) (cond (not l) (t ∷ filter (λ t. not (is_loop t)) ts) (filter (λ t. not (is_loop t)) ts))
    go true h = h
    go false h = ap (λ z. cond (is_relevant occs n t) (t ∷ z) z) h

-- items behind so many of two lists
drop_both : {X : Type 0} (k : ℕ) (xs ys : List X) → drop k (xs ++ ys) ≡ drop k xs ++ drop (k - length xs) ys
drop_both k xs ys = elim (cases_lt k (length xs)) [
  | inl lt ↦
      let none : k - length xs ≡ 0 = omega (arith, lt) in
      drop-append-le k xs ys (omega (arith, lt)) ∙ ap (λ m. drop k xs ++ drop m ys) (sym none)
  | inr ge ↦
      let whole : k ≡ length xs + (k - length xs) = omega (arith, ge) in
      ap (λ m. drop m (xs ++ ys)) whole ∙ drop-append-add xs ys (k - length xs) ∙ sym (ap (λ zs. zs ++ drop (k - length xs) ys) (drop_all k xs ge))
]

-- the later relevant triples are those behind the places
module _ (sh : Shape) (n : TermId) (outs ins : List Triple) (done left at to : ℕ)
    (first : drop done (filter (is_kept sh.occs n false) outs) ≡ filter (is_kept sh.occs n false) (drop at outs)) (over : left ≡ done - length (filter (is_kept sh.occs n false) outs))
    (second : drop left (filter (is_kept sh.occs n true) ins) ≡ filter (is_kept sh.occs n true) (drop to ins)) where
  abbrev nl : List Triple → List Triple
  nl ts = filter (λ t. not (is_loop t)) ts

  later_is : drop done (filter (is_relevant sh.occs n) (outs ++ nl ins)) ≡ filter (is_relevant sh.occs n) (drop at outs) ++ filter (is_relevant sh.occs n) (nl (drop to ins))
  later_is =
      ap (λ zs. drop done zs) (filter-append (is_relevant sh.occs n) outs (nl ins))
      ∙ drop_both done (filter (is_relevant sh.occs n) outs) (filter (is_relevant sh.occs n) (nl ins))
      ∙ (λ i. first i ++ drop (sym over i) (sym (kept_inward sh.occs n ins) i))
      ∙ ap (λ zs. filter (is_relevant sh.occs n) (drop at outs) ++ zs) (second ∙ kept_inward sh.occs n (drop to ins))

  same_fits : (o : Occurrence) → Contains sh.occs o → count_fits o n (drop at outs ++ nl (drop to ins)) ≡ count_fits o n (drop done (filter (is_relevant sh.occs n) (outs ++ nl ins)))
  same_fits o held =
      fits_append n o (drop at outs) (nl (drop to ins))
      ∙ (λ i. sym (fits_relevant sh.occs n o held (drop at outs)) i + sym (fits_relevant sh.occs n o held (nl (drop to ins))) i)
      ∙ sym (fits_append n o (filter (is_relevant sh.occs n) (drop at outs)) (filter (is_relevant sh.occs n) (nl (drop to ins))))
      ∙ ap (λ zs. count_fits o n zs) (sym later_is)

  same_fitting : (i : ℕ) → fitting n (drop at outs ++ nl (drop to ins)) (slice_get sh.occs i) ≡ fitting n (drop done (filter (is_relevant sh.occs n) (outs ++ nl ins))) (slice_get sh.occs i)
  same_fitting i = go (slice_get sh.occs i) refl
    where
      go : (o : Option Occurrence) → slice_get sh.occs i ≡ o → fitting n (drop at outs ++ nl (drop to ins)) o ≡ fitting n (drop done (filter (is_relevant sh.occs n) (outs ++ nl ins))) o
      go None e = refl
      go (Some o) e = same_fits o (got_in sh.occs i o e)

  body_same : (counts : ℕ → ℕ) (body : Option Plan) →
      IsDeadBody sh n (drop at outs ++ nl (drop to ins)) counts body ≡ IsDeadBody sh n (drop done (filter (is_relevant sh.occs n) (outs ++ nl ins))) counts body
  body_same counts None = refl
  body_same counts (Some c) = ap (λ (f : ℕ → ℕ). ¬ HasSpan (span c counts f) 1) (λ k i. counts i + same_fitting i k)

  pub dead_behind : (counts : ℕ → ℕ) (r : Bool) → (IsTrue r ↔ IsDeadBody sh n (drop at outs ++ nl (drop to ins)) counts sh.body) →
      IsTrue r ↔ IsDeadBody sh n (drop done (filter (is_relevant sh.occs n) (outs ++ nl ins))) counts sh.body
  dead_behind counts r h = subst (λ P. IsTrue r ↔ P) (body_same counts sh.body) h

-- a state is dead where the triples behind the places bring it to no match
pub dead_found : (terms : List Term) (g : List Triple) (n : TermId) (o : Option Shape) (sh : Shape) → o ≡ Some sh → (occs : List Occurrence) → occs ≡ sh.occs →
    (out into : List Triple) → out ≡ sorted_by (by_object terms) (outs g n) → into ≡ sorted_by (by_subject terms) (ins g n) → (x : State) (left at to : ℕ) →
    drop x.done (filter (is_kept occs n false) out) ≡ filter (is_kept occs n false) (drop at out) → left ≡ x.done - length (filter (is_kept occs n false) out) →
    drop left (filter (is_kept occs n true) into) ≡ filter (is_kept occs n true) (drop to into) → (counts : List ℕ) → counts ≡ x.counts → (r : Bool) →
    (IsTrue r ↔ IsDeadBody sh n (drop at out ++ filter (λ t. not (is_loop t)) (drop to into)) (slice_index counts) sh.body) → IsTrue r ↔ IsDeadOf terms g n o x
dead_found terms g n o sh is occs same out into lent lent_in x left at to first over second counts counted r h =
    subst (λ z. IsTrue r ↔ IsDeadOf terms g n z x) (sym is)
    (subst (λ zs. IsTrue r ↔ IsDeadBody sh n (drop x.done (filter (is_relevant sh.occs n) zs)) (slice_index x.counts) sh.body) (λ i. lent i ++ filter (λ t. not (is_loop t)) (lent_in i))
    (dead_behind sh n out into x.done left at to
    (subst (λ os. drop x.done (filter (is_kept os n false) out) ≡ filter (is_kept os n false) (drop at out)) same first)
    (subst (λ os. left ≡ x.done - length (filter (is_kept os n false) out)) same over)
    (subst (λ os. drop left (filter (is_kept os n true) into) ≡ filter (is_kept os n true) (drop to into)) same second)
    (slice_index x.counts) r
    (subst (λ cs. IsTrue r ↔ IsDeadBody sh n (drop at out ++ filter (λ t. not (is_loop t)) (drop to into)) (slice_index cs) sh.body) counted h)))
