-- How many later triples of two lists the occurrences fit, the self-loops of the second left out.
use Rattle.std.proofs.Common.{◌≡◌, ℕ, suc, ◌+◌, ◌<◌, ◌≤◌, inl, inr, length, get_or, set, take, drop, List, ◌∷◌, ◌++◌, filter, not, refl, arith, ap, sym, subst, ◌∙◌, Bool, true, false, cond, slice_index}
use Rattle.std.proofs.lemmas.Bool.{cases_eq}
use Rattle.std.proofs.lemmas.List.{drop_all, drop_more, get_or-set_other, get_or-set_same, get_or-take, length-append, length-take-le}
use Rattle.std.specs.Prelude.{◌&&◌, slice_get}
use Rattle.rdf_terms.specs.declared.terms.TermId.{TermId}
use Rattle.rdf_terms.specs.declared.terms.Triple.{Triple}
use Rattle.rdf_terms.specs.Graphs.{is_loop}
use Rattle.schema_tree.specs.declared.schema.Occurrence.{Occurrence}
use Rattle.schema_tree.specs.Matches.{fits}
use Rattle.schema_tree.specs.States.{count_fits, fitting}
use Rattle.bag_match.specs.Counts.{AreLeft}
use Rattle.bag_match.proofs.Left.{fitting_at}
use Rattle.bag_match.proofs.Neighbours.{filter_few}
use Rattle.bag_match.proofs.Skipping.{fits_append}
use Rattle.bag_match.proofs.Stepping.{left_few}

-- the triples that are no self-loops
abbrev pub inward : List Triple → List Triple
inward ts = filter (λ t. not (is_loop t)) ts

-- those that are left, and the first of them
inward_left : (o : Occurrence) (n : TermId) (ts : List Triple) (i : ℕ) (d : Triple) → i < length ts → (b : Bool) → b ≡ (not (is_loop (get_or ts i d)) && fits o n (get_or ts i d)) →
    count_fits o n (inward (drop i ts)) ≡ cond b (suc (count_fits o n (inward (drop (i + 1) ts)))) (count_fits o n (inward (drop (i + 1) ts)))
inward_left o n ts i d within b is =
    ap (λ z. count_fits o n (inward z)) (drop_more ts i d within) ∙ go (is_loop (get_or ts i d))
    ∙ ap (λ c. cond c (suc (count_fits o n (inward (drop (i + 1) ts)))) (count_fits o n (inward (drop (i + 1) ts)))) (sym is)
  where
    go : (l : Bool) → count_fits o n (cond (not l) (get_or ts i d ∷ inward (drop (i + 1) ts)) (inward (drop (i + 1) ts)))
        ≡ cond (not l && fits o n (get_or ts i d)) (suc (count_fits o n (inward (drop (i + 1) ts)))) (count_fits o n (inward (drop (i + 1) ts)))
    go true = refl
    go false = refl

module _ (o : Occurrence) (n : TermId) (ts : List Triple) (i : ℕ) (d : Triple) (count : ℕ) (within : i < length ts) (b : Bool) (is : b ≡ (not (is_loop (get_or ts i d)) && fits o n (get_or ts i d)))
    (before : count + count_fits o n (inward (drop i ts)) ≡ count_fits o n (inward ts)) where
  pub inward_one : b ≡ true → (count + 1) + count_fits o n (inward (drop (i + 1) ts)) ≡ count_fits o n (inward ts)
  inward_one yes_it =
      let left : count_fits o n (inward (drop i ts)) ≡ suc (count_fits o n (inward (drop (i + 1) ts))) =
      inward_left o n ts i d within b is ∙ ap (λ c. cond c (suc (count_fits o n (inward (drop (i + 1) ts)))) (count_fits o n (inward (drop (i + 1) ts)))) yes_it in
      omega (arith, left, before)

  pub inward_none : b ≡ false → count + count_fits o n (inward (drop (i + 1) ts)) ≡ count_fits o n (inward ts)
  inward_none no_it =
      let left : count_fits o n (inward (drop i ts)) ≡ count_fits o n (inward (drop (i + 1) ts)) =
      inward_left o n ts i d within b is ∙ ap (λ c. cond c (suc (count_fits o n (inward (drop (i + 1) ts)))) (count_fits o n (inward (drop (i + 1) ts)))) no_it in
      omega (arith, left, before)

pub inward_end : (o : Occurrence) (n : TermId) (ts : List Triple) (i count : ℕ) → length ts ≤ i →
    count + count_fits o n (inward (drop i ts)) ≡ count_fits o n (inward ts) → count ≡ count_fits o n (inward ts)
inward_end o n ts i count past is =
    let left : count_fits o n (inward (drop i ts)) ≡ 0 = ap (λ z. count_fits o n (inward z)) (drop_all i ts past) in
    omega (arith, left, is)

-- one more number of a function is put at its place
pub filled : (xs : List ℕ) (F : ℕ → ℕ) (i v : ℕ) → i < length xs → ((j : ℕ) → j < i → slice_index xs j ≡ F j) → v ≡ F i →
    (j : ℕ) → j < i + 1 → slice_index (set xs i v) j ≡ F j
filled xs F i v within before is j lt = elim (cases_eq j i) [
  | inl same ↦ subst (λ k. slice_index (set xs i v) k ≡ F k) (sym same) (get_or-set_same xs i v 0 within ∙ is)
  | inr other ↦ get_or-set_other xs i j v 0 other ∙ before j (omega (arith, lt, other))
]

-- an occurrence fits the triples of both lists
pub both_fit : (n : TermId) (outs ins : List Triple) (occs : List Occurrence) (i : ℕ) (d : Occurrence) (a b : ℕ) → i < length occs →
    a ≡ count_fits (get_or occs i d) n outs → b ≡ count_fits (get_or occs i d) n (inward ins) →
    a + b ≡ fitting n (outs ++ inward ins) (slice_get occs i)
both_fit n outs ins occs i d a b within first second =
    let at = fitting_at n (outs ++ inward ins) occs i d within in
    let sum = fits_append n (get_or occs i d) outs (inward ins) in
    omega (arith, at, sum, first, second)

-- the first numbers are those of the occurrences
pub left_front : (occs : List Occurrence) (n : TermId) (later : List Triple) (xs ys : List ℕ) (k : ℕ) → k ≡ length occs → length occs ≤ length xs → ys ≡ take k xs →
    ((i : ℕ) → i < length occs → slice_index xs i ≡ fitting n later (slice_get occs i)) → AreLeft occs n later ys
left_front occs n later xs ys k many room is each =
    subst (λ zs. AreLeft occs n later zs) (sym (is ∙ ap (λ m. take m xs) many))
    (length-take-le (length occs) xs room, λ i lt. get_or-take (length occs) xs i 0 lt ∙ each i lt)

-- a count with the later triples that fit is small
pub sums_small : (occs : List Occurrence) (n : TermId) (outs ins : List Triple) (counts left : List ℕ) → AreLeft occs n (outs ++ inward ins) left →
    (i : ℕ) → slice_index counts i + slice_index left i ≤ slice_index counts i + (length outs + length ins)
sums_small occs n outs ins counts left held i =
    let a = left_few occs n (outs ++ inward ins) left held i in
    let b = length-append outs (inward ins) in
    let c = filter_few (λ t. not (is_loop t)) ins in
    omega (arith, a, b, c)

-- the numbers that were put at the places of the occurrences, as they are lent
pub left_of : (all occs : List Occurrence) (n : TermId) (later : List Triple) (xs lent ys : List ℕ) → occs ≡ all → lent ≡ xs → ys ≡ take (length occs) lent → length occs ≤ length xs →
    ((i : ℕ) → i < length occs → slice_index xs i ≡ fitting n later (slice_get occs i)) → AreLeft all n later ys
left_of all occs n later xs lent ys same lends is room each =
    subst (λ os. AreLeft os n later ys) same (left_front occs n later xs ys (length occs) refl room (is ∙ ap (λ zs. take (length occs) zs) lends) each)
