-- The other characters with the simple folding of a character of ASCII.
use Rattle.std.proofs.Common.{◌≡◌, ℕ, zero, suc, ◌<◌, ◌⊎◌, inl, inr, List, [], ◌∷◌, ◌++◌, map, drop, get_or, refl, arith, sym, subst, ap, ◌∙◌, append_assoc}
use Rattle.std.proofs.lemmas.Bool.{cases_eq}
use Rattle.std.specs.Prelude.{Option, Result, Ok, Err, OnOk}
use Rattle.unicode.specs.CaseFolding.{fold_pairs}
use Rattle.ucd_case.specs.FoldOtherRows.{fold_other_rows}
use Rattle.xs_pattern.specs.Tests.{beyond_ascii, listed, other_case, others}

abbrev ascii_others : ℕ → List ℕ
ascii_others c = listed (other_case c) ++ listed (beyond_ascii c)

-- the numbers below one
abbrev below : ℕ → List ℕ
below zero = []
below (suc n) = n ∷ below n

module _ (f g : ℕ → List ℕ) (n c : ℕ) (first : f n ≡ g n) (others : c < n → f c ≡ g c) where
  one_same : (c ≡ n) ⊎ (¬ (c ≡ n)) → c < suc n → f c ≡ g c
  one_same (inl is) lt = subst (λ k. f k ≡ g k) (sym is) first
  one_same (inr other) lt = others (omega arith)

each_same : (f g : ℕ → List ℕ) (n : ℕ) → map f (below n) ≡ map g (below n) → (c : ℕ) → c < n → f c ≡ g c
each_same f g zero same c lt = absurd (omega arith)
each_same f g (suc n) same c lt = one_same f g n c (ap (λ xs. get_or xs 0 []) same) (λ less. each_same f g n (ap (drop 1) same) c less) (cases_eq c n) lt

all_same : map ascii_others (below 128) ≡ map others (below 128)
unfolding fold_pairs fold_other_rows
all_same = refl

pub ascii_added : {T E : Type 0} (r : Result T E) (old one new : List ℕ) (c : ℕ) (other beyond : Option ℕ) → c < 128 →
    other ≡ other_case c → beyond ≡ beyond_ascii c → one ≡ old ++ listed other → OnOk r (new ≡ one ++ listed beyond) → OnOk r (new ≡ old ++ others c)
ascii_added (Ok t) old one new c other beyond lt o b first second =
    second ∙ ap (λ v. v ++ listed beyond) first ∙ append_assoc old (listed other) (listed beyond)
    ∙ ap (λ v. old ++ (listed v ++ listed beyond)) o ∙ ap (λ v. old ++ (listed (other_case c) ++ listed v)) b
    ∙ ap (λ v. old ++ v) (each_same ascii_others others 128 all_same c lt)
ascii_added (Err e) old one new c other beyond lt o b first second = tt
