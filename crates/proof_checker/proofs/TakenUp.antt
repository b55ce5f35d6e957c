-- Tables that take up terms, one after another.
use Rattle.std.proofs.Common.{◌≡◌, ℕ, zero, suc, ◌<◌, ◌≤◌, ◌⊎◌, inl, inr, length, map, List, [], ◌∷◌, ◌++◌, refl, arith, ap, sym, subst, ◌∙◌}
use Rattle.std.proofs.lemmas.List.{append_assoc, map-append}
use Rattle.std.proofs.lemmas.List.Elements.{Contains-append_cases, Contains-append_left, Contains-append_right}
use Rattle.std.proofs.lemmas.Option.{slice_get-get_or}
use Rattle.std.specs.Prelude.{Contains, Some, slice_get, unwrap_or}
use Rattle.lists.specs.Distinct.{AreDistinct}
use Rattle.lists.specs.Additions.{Adds}
use Rattle.rdf_terms.specs.declared.terms.TermId.{TermId}
use Rattle.rdf_terms.specs.declared.terms.Term.{Term}
use Rattle.lists.proofs.Members.{in_rest, is_first, is_later, got_in}
use Rattle.proof_file.specs.Accepts.{AreNumbers}
use Rattle.proof_checker.specs.Checks.{CannotTake, KeepsTerms, TakesUp}
use Rattle.rdf_terms.specs.Tables.{max_terms}

pub takes_push : (old ys mid : List Term) (t : Term) (new : List Term) → TakesUp old ys mid → Adds mid t new → TakesUp old (ys ++ t ∷ []) new
takes_push old [] mid t new same adds = (new, subst (λ z. Adds z t new) same adds, refl)
takes_push old (y ∷ ys) mid t new (first, own, rest) adds = (first, own, takes_push first ys mid t new rest adds)

same_some : (x y : Term) → Some x ≡ Some y → x ≡ y
same_some x y h = ap (λ o. unwrap_or {T = Term} o x) h

get_left : (xs ys : List Term) (i : ℕ) (x : Term) → slice_get xs i ≡ Some x → slice_get (xs ++ ys) i ≡ Some x
get_left [] ys i x e = cc
get_left (z ∷ xs) ys zero x e = e
get_left (z ∷ xs) ys (suc i) x e = get_left xs ys i x e

pub adds_keeps : (old : List Term) (t : Term) (new : List Term) → Adds old t new → KeepsTerms old new
adds_keeps old t new (inl (held, same)) i x e = subst (λ z. slice_get z i ≡ Some x) (sym same) e
adds_keeps old t new (inr (fresh, is)) i x e = subst (λ z. slice_get z i ≡ Some x) (sym is) (get_left old (t ∷ []) i x e)

pub keeps_on : (a b c : List Term) → KeepsTerms a b → KeepsTerms b c → KeepsTerms a c
keeps_on a b c h k i x e = k i x (h i x e)

head_same : {A : Type 0} {a b : A} {xs ys : List A} → a ∷ xs ≡ b ∷ ys → a ≡ b
head_same h = cc

tail_same : {A : Type 0} {a b : A} {xs ys : List A} → a ∷ xs ≡ b ∷ ys → xs ≡ ys
tail_same h = cc

-- numbers of a table are numbers of one that keeps its terms
pub numbers_kept : (mid new : List Term) (ys : List Term) (ns : List TermId) → KeepsTerms mid new → AreNumbers mid ys ns → AreNumbers new ys ns
numbers_kept mid new [] [] keeps h = h
numbers_kept mid new [] (n ∷ ns) keeps h = absurd (nothing_more h)
  where
    nothing_more : {A : Type 0} {a : A} {xs : List A} → a ∷ xs ≡ [] → ⊥
    nothing_more h = cc
numbers_kept mid new (y ∷ ys) [] keeps h = absurd (nothing_less h)
  where
    nothing_less : {A : Type 0} {a : A} {xs : List A} → [] ≡ a ∷ xs → ⊥
    nothing_less h = cc
numbers_kept mid new (y ∷ ys) (n ∷ ns) keeps h =
    ap (λ o. o ∷ map (λ i. slice_get new i.0) ns) (keeps n.0 y (head_same h)) ∙ ap (λ zs. Some y ∷ zs) (numbers_kept mid new ys ns keeps (tail_same h))

pub numbers_push : (mid new : List Term) (ys : List Term) (ns : List TermId) (t : Term) (n : TermId) → KeepsTerms mid new → AreNumbers mid ys ns →
    slice_get new n.0 ≡ Some t → AreNumbers new (ys ++ t ∷ []) (ns ++ n ∷ [])
numbers_push mid new ys ns t n keeps h at =
    map-append (λ i. slice_get new i.0) ns (n ∷ []) ∙ ap (λ zs. zs ++ slice_get new n.0 ∷ []) (numbers_kept mid new ys ns keeps h)
    ∙ ap (λ o. map (λ x. Some x) ys ++ o ∷ []) at ∙ sym (map-append (λ x. Some x) ys (t ∷ []))

-- what a table that takes up terms has
pub takes_from : (old ys mid : List Term) (x : Term) → TakesUp old ys mid → Contains mid x → Contains old x ⊎ Contains ys x
takes_from old [] mid x same c = inl (subst (λ z. Contains z x) same c)
takes_from old (y ∷ ys) mid x (first, adds, rest) c = go (takes_from first ys mid x rest c) adds
  where
    go : Contains first x ⊎ Contains ys x → Adds old y first → Contains old x ⊎ Contains (y ∷ ys) x
    go (inr later) adds = inr (Contains-append_right (y ∷ []) ys x later)
    go (inl held) (inl (there, same)) = inl (subst (λ z. Contains z x) same held)
    go (inl held) (inr (fresh, is)) = elim (Contains-append_cases old (y ∷ []) x (subst (λ z. Contains z x) is held)) [
      | inl before ↦ inl before
      | inr own ↦ inr (Contains-append_left (y ∷ []) ys x own)
    ]

-- distinct items of a list are no more than it has: the first is taken out of both
without : (xs : List Term) (i : ℕ) → i < length xs → (rest : List Term) × ((suc (length rest) ≡ length xs) × ((x y : Term) → slice_get xs i ≡ Some y → (¬ (x ≡ y)) → Contains xs x → Contains rest x))
without [] i within = absurd (omega (arith, within))
without (z ∷ xs) zero within = (
  xs,
  (
    refl,
    λ x y at other c. elim (in_rest z xs x c) [
      | inl same ↦ absurd (other (sym same ∙ same_some z y at))
      | inr later ↦ later
    ],
  ),
)
without (z ∷ xs) (suc i) within =
    let (rest, (long, has)) = without xs i (omega (arith, within)) in (
      z ∷ rest,
      (
        ap (λ k. suc k) long,
        λ x y at other c. elim (in_rest z xs x c) [
          | inl same ↦ subst (λ w. Contains (z ∷ rest) w) same (is_first z rest)
          | inr later ↦ is_later z rest x (has x y at other later)
        ],
      ),
    )

fewer : (xs new : List Term) → AreDistinct xs → ((x : Term) → Contains xs x → Contains new x) → length xs ≤ length new
fewer [] new distinct holds = omega arith
fewer (t ∷ xs) new distinct holds =
    let (i, within, at) = holds t (is_first t xs) in
    let is : slice_get new i ≡ Some t = slice_get-get_or new i t within ∙ ap (λ z. Some z) at in
    let (rest, (long, has)) = without new i within in
    let le = fewer xs rest (λ a b x e f. less_one (distinct (suc a) (suc b) x e f)) (λ x c. has x t is (λ same. apart x c same) (holds x (is_later t xs x c))) in
    omega (arith, le, long)
  where
    less_one : {a b : ℕ} → suc a ≡ suc b → a ≡ b
    less_one e = omega (arith, e)

    apart : (x : Term) → Contains xs x → ¬ (x ≡ t)
    apart x (k, inside, there) same =
        let at_k : slice_get xs k ≡ Some x = slice_get-get_or xs k x inside ∙ ap (λ z. Some z) there in
        let clash : 0 ≡ suc k = distinct 0 (suc k) t refl (at_k ∙ ap (λ z. Some z) same) in
        omega (arith, clash)

kept_in : (old new : List Term) (x : Term) → KeepsTerms old new → Contains old x → Contains new x
kept_in old new x keeps (i, within, at) =
    let is : slice_get old i ≡ Some x = slice_get-get_or old i x within ∙ ap (λ z. Some z) at in
    got_in new i x (keeps i x is)

distinct_more : (xs : List Term) (t : Term) → AreDistinct xs → (¬ Contains xs t) → AreDistinct (t ∷ xs)
distinct_more xs t distinct fresh zero zero x a b = refl
distinct_more xs t distinct fresh zero (suc j) x a b = absurd (fresh (subst (λ z. Contains xs z) (same_some x t (sym a)) (got_in xs j x b)))
distinct_more xs t distinct fresh (suc i) zero x a b = absurd (fresh (subst (λ z. Contains xs z) (same_some x t (sym b)) (got_in xs i x a)))
distinct_more xs t distinct fresh (suc i) (suc j) x a b = ap (λ k. suc k) (distinct i j x a b)

-- one more item of those that are to come
pub rest_moves : (all ys old : List Term) (t : Term) (new : List Term) → all ≡ ys ++ old → old ≡ t ∷ new → all ≡ (ys ++ t ∷ []) ++ new
rest_moves all ys old t new is steps = is ∙ ap (λ z. ys ++ z) steps ∙ sym (append_assoc ys (t ∷ []) new)

-- a full table without t takes up no list that has t behind what it took up
pub cannot_take :
    (old ys mid rest lines : List Term) (t : Term) → TakesUp old ys mid → KeepsTerms old mid → AreDistinct mid → ¬ Contains mid t → length mid ≡ max_terms →
    lines ≡ ys ++ t ∷ rest → CannotTake old lines
cannot_take old ys mid rest lines t takes kept distinct fresh full is new new_distinct keeps holds =
    let more : length (t ∷ mid) ≤ length new = fewer (t ∷ mid) new (distinct_more mid t distinct fresh) (λ x c. inside x (in_rest t mid x c)) in
    omega (arith, more, full)
  where
    held : (x : Term) → Contains ys x ⊎ (t ≡ x) → Contains lines x
    held x (inl c) = subst (λ z. Contains z x) (sym is) (Contains-append_left ys (t ∷ rest) x c)
    held x (inr same) = subst (λ z. Contains z x) (sym is) (Contains-append_right ys (t ∷ rest) x (subst (λ z. Contains (t ∷ rest) z) same (is_first t rest)))

    inside : (x : Term) → (t ≡ x) ⊎ Contains mid x → Contains new x
    inside x (inl same) = holds x (held x (inr same))
    inside x (inr c) = elim (takes_from old ys mid x takes c) [
      | inl before ↦ kept_in old new x keeps before
      | inr among ↦ holds x (held x (inl among))
    ]

pub rest_split : (all ys old : List Term) (t : Term) (new : List Term) → all ≡ ys ++ old → old ≡ t ∷ new → all ≡ ys ++ t ∷ new
rest_split all ys old t new is steps = is ∙ ap (λ z. ys ++ z) steps
