-- The names of the datatypes, and IRIs outside their namespace.
use Rattle.std.proofs.Common.{◌≡◌, ℕ, ◌-◌, ◌^◌, Bool, true, false, cond, List, [], ◌∷◌, ◌++◌, length, take, drop, nat_eq, ℤ, pos, neg_ℤ, int_le, inl, inr, subst, refl, sym, ◌∙◌, ap}
use Rattle.std.specs.List.{starts_with, list_any}
use Rattle.std.proofs.lemmas.List.{take-append-drop}
use Rattle.std.proofs.lemmas.Slice.Eq.{bytes_eq-Decides}
use Rattle.std.specs.Str.{bytes_eq}
use Rattle.std.proofs.lemmas.Bool.{false≢true, or_cases, and_parts}
use Rattle.xs_text.specs.Datatype.{namespace, lexical_spaces, numeric_names, passes_test_of, is_in_lexical_space, is_integer_from, is_integer_to, is_integer_between, is_signed, is_unsigned}
use Rattle.xs_text.specs.Decimal.{is_decimal, is_integer, integer_value}
use Rattle.xs_text.specs.Laws.{NumericTextsAreDecimals}
use Rattle.xs_text.proofs.Integers.{decimal_from_integer}

not_begun : (iri n : List ℕ) (b : Bool) → starts_with nat_eq iri n ≡ b → ((rest : List ℕ) → iri ≡ n ++ rest → ⊥) → starts_with nat_eq iri n ≡ false
not_begun iri n false e h = e
not_begun iri n true e h =
    let front = (bytes_eq-Decides n (take (length n) iri)).0 e in
    absurd (h (drop (length n) iri) (sym (take-append-drop (length n) iri) ∙ ap (λ f. f ++ drop (length n) iri) (sym front)))

pub outside : (iri text : List ℕ) → ((rest : List ℕ) → iri ≡ namespace ++ rest → ⊥) → true ≡ is_in_lexical_space iri text
outside iri text h =
    ap (λ b. cond b (passes_test_of lexical_spaces (drop (length namespace) iri) text) true) (sym (not_begun iri namespace (starts_with nat_eq iri namespace) refl h))

-- a fact of each name of a list
abbrev OfEach : (List ℕ → Type 0) → List (List ℕ) → Type 0
OfEach P [] = Unit {0}
OfEach P (n ∷ ns) = P n × OfEach P ns

of_listed : (P : List ℕ → Type 0) (names : List (List ℕ)) (name : List ℕ) → OfEach P names → list_any (bytes_eq name) names ≡ true → P name
of_listed P [] name all e = absurd (false≢true e)
of_listed P (n ∷ ns) name all e =
    elim (or_cases (bytes_eq name n) (list_any (bytes_eq name) ns) e) [
      | inl h ↦ subst P (sym ((bytes_eq-Decides name n).0 h)) all.0
      | inr h ↦ of_listed P ns name all.1 h
    ]

abbrev HasDecimals : List ℕ → Type 0
HasDecimals name = (text : List ℕ) → is_in_lexical_space (namespace ++ name) text ≡ true → is_decimal text ≡ true

from : (low : ℤ) (text : List ℕ) → is_integer_from low text ≡ true → is_decimal text ≡ true
from low text h = decimal_from_integer text (and_parts (is_integer text) (int_le low (integer_value text)) h).0

to : (high : ℤ) (text : List ℕ) → is_integer_to high text ≡ true → is_decimal text ≡ true
to high text h = decimal_from_integer text (and_parts (is_integer text) (int_le (integer_value text) high) h).0

between : (low high : ℤ) (text : List ℕ) → is_integer_between low high text ≡ true → is_decimal text ≡ true
between low high text h = from low text (and_parts (is_integer_from low text) (is_integer_to high text) h).0

signed_type : (bits : ℕ) (text : List ℕ) → is_signed bits text ≡ true → is_decimal text ≡ true
signed_type bits = between (neg_ℤ (pos (2 ^ (bits - 1)))) (pos (2 ^ (bits - 1) - 1))

unsigned_type : (bits : ℕ) (text : List ℕ) → is_unsigned bits text ≡ true → is_decimal text ≡ true
unsigned_type bits = between (pos 0) (pos (2 ^ bits - 1))

each_has_decimals : OfEach HasDecimals numeric_names
each_has_decimals = (
  (λ text h. h),
  (
    (λ text h. decimal_from_integer text h),
    (
      to (pos 0),
      (
        to (neg_ℤ (pos 1)),
        (
          signed_type 64,
          (
            signed_type 32,
            (
              signed_type 16,
              (
                signed_type 8,
                (from (pos 0), (unsigned_type 64, (unsigned_type 32, (unsigned_type 16, (unsigned_type 8, (from (pos 1), tt)))))),
              ),
            ),
          ),
        ),
      ),
    ),
  ),
)

pub numeric_texts_are_decimals : NumericTextsAreDecimals
numeric_texts_are_decimals name text h k = of_listed HasDecimals numeric_names name each_has_decimals h text k
