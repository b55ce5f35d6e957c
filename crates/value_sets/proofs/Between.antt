-- Texts in the order of their bytes: what stands between a text and one that begins with it begins with it too.
use Rattle.std.proofs.Common.{◌≡◌, ◌⊎◌, ℕ, Bool, true, false, true≢false, inl, inr, List, [], ◌∷◌, ◌++◌, ap, arith, encode_utf8_all, not, refl, sym, ◌∙◌}
use Rattle.std.proofs.lemmas.Bool.{cases_lt}
use Rattle.std.proofs.lemmas.Cmp.{nat_cmp_total, nat_list_cmp_total, on_total, tied_itself}
use Rattle.std.proofs.lemmas.Str.{encodes-append}
use Rattle.std.specs.Cmp.{IsTotalOrder, nat_cmp_is}
use Rattle.std.specs.Cmp.Lexicographic.{slice_cmp}
use Rattle.std.specs.Ordering.{is_lt, nat_cmp, ordering_then}
use Rattle.std.specs.declared.cmp.Ordering.{Ordering}
use Rattle.std.specs.declared.cmp.Ordering.TheVariants.{Less}
use Rattle.lists.proofs.Sorting.{weak}
use Rattle.value_sets.specs.StemIndex.{by_bytes, is_upto}
use Rattle.value_sets.specs.Stems.{HasPrefix}
use Rattle.value_sets.proofs.Prefixes.{behind}

abbrev compare : List ℕ → List ℕ → Ordering
compare = slice_cmp nat_cmp

-- lists that begin with the same and go on with the same
pub cons_same : {x y : ℕ} {xs ys : List ℕ} → x ≡ y → xs ≡ ys → x ∷ xs ≡ y ∷ ys
cons_same p q = cc

ranked : (x y : ℕ) → (nat_cmp x y ≡ Less) ⊎ ((x ≡ y) ⊎ (nat_cmp y x ≡ Less))
ranked x y = elim (cases_lt x y) [
  | inl lt ↦ inl (sym (nat_cmp_is x y Less lt))
  | inr le ↦ elim (cases_lt y x) [
    | inl gt ↦ inr (inr (sym (nat_cmp_is y x Less gt)))
    | inr ge ↦ inr (inl (omega (arith, le, ge)))
  ]
]

-- what the first numbers say where they differ, and where they are one
decided : (x y : ℕ) (o : Ordering) → nat_cmp x y ≡ Less → is_lt (ordering_then (nat_cmp x y) o) ≡ true
decided x y o less = ap (λ r. is_lt (ordering_then r o)) less

passed : (x y : ℕ) (o : Ordering) → x ≡ y → is_lt (ordering_then (nat_cmp x y) o) ≡ is_lt o
passed x y o same = ap (λ r. is_lt (ordering_then r o)) (ap (λ z. nat_cmp x z) (sym same) ∙ tied_itself nat_cmp_total x)

-- bytes between p and p with more behind it begin with p
between : (p c r : List ℕ) → is_lt (compare c p) ≡ false → is_lt (compare (p ++ r) c) ≡ false → (rest : List ℕ) × (c ≡ p ++ rest)
between [] c r low high = (c, refl)
between (x ∷ p) [] r low high = absurd (true≢false low)
between (x ∷ p) (y ∷ c) r low high = elim (ranked y x) [
  | inl less ↦ absurd (true≢false (sym (decided y x (compare c p) less) ∙ low))
  | inr (inl same) ↦
      let (rest, is) = between p c r (sym (passed y x (compare c p) same) ∙ low) (sym (passed x y (compare (p ++ r) c) (sym same)) ∙ high) in
      (rest, cons_same same is)
  | inr (inr more) ↦ absurd (true≢false (sym (decided x y (compare (p ++ r) c) more) ∙ high))
]

-- what has more behind it is not before
longer : (p r : List ℕ) → is_lt (compare (p ++ r) p) ≡ false
longer [] [] = refl
longer [] (x ∷ r) = refl
longer (x ∷ p) r = passed x x (compare (p ++ r) p) refl ∙ longer p r

opened : (b : Bool) → not b ≡ true → b ≡ false
opened true h = absurd (true≢false (sym h))
opened false h = refl

closed : (b : Bool) → b ≡ false → not b ≡ true
closed true h = absurd (true≢false h)
closed false h = refl

pub prefix_upto : (stem text : List ℕ) → HasPrefix stem text → is_upto stem text ≡ true
prefix_upto stem text (rest, is) =
    closed _ (ap (λ z. is_lt (compare z (encode_utf8_all stem))) (ap encode_utf8_all is ∙ encodes-append stem rest)
    ∙ longer (encode_utf8_all stem) (encode_utf8_all rest))

pub sandwiched : (stem middle text : List ℕ) → HasPrefix stem text → is_upto stem middle ≡ true → is_upto middle text ≡ true → HasPrefix stem middle
sandwiched stem middle text (rest, is) low high =
    let bytes : encode_utf8_all text ≡ encode_utf8_all stem ++ encode_utf8_all rest = ap encode_utf8_all is ∙ encodes-append stem rest in
    let (left, begins) = between (encode_utf8_all stem) (encode_utf8_all middle) (encode_utf8_all rest) (opened _ low)
    (ap (λ z. is_lt (compare z (encode_utf8_all middle))) (sym bytes) ∙ opened _ high) in
    let found = behind middle stem left begins in
    (found.0, found.1)

pub bytes_total : IsTotalOrder by_bytes
bytes_total = on_total encode_utf8_all nat_list_cmp_total

pub upto_chain : (a b c : List ℕ) → is_upto a b ≡ true → is_upto b c ≡ true → is_upto a c ≡ true
upto_chain a b c low high = closed _ ((weak by_bytes bytes_total).chain c b a (opened _ high) (opened _ low))

pub not_before : (a b : List ℕ) → is_lt (by_bytes b a) ≡ false → is_upto a b ≡ true
not_before a b h = closed _ h
