-- What is known of the facets of a constraint is known of them in plain form.
use Rattle.std.proofs.Common.{◌≡◌, ◌∙◌, ap, refl, sym, subst, ℕ, zero, suc, ◌+◌, ◌<◌, ◌≤◌, ◌/◌, ◌%◌, arith, Bool, true, false, true≢false, List, [], ◌∷◌, ◌++◌, length, drop, map, cond, encode_utf8_all, inl, inr}
use Rattle.std.proofs.lemmas.Bool.Decides.{nat_tests}
use Rattle.std.proofs.lemmas.List.{drop_all}
use Rattle.std.proofs.Math.Nat.{mod-lt}
use Rattle.std.proofs.lemmas.Str.{encodes-IsAscii}
use Rattle.std.specs.Fmt.{decimal, digit_glyph, digits, digits_onto, signed_decimal}
use Rattle.std.specs.List.{AllByRecursion, after_first, filter, flat_map, list_all, list_any, position_or_len}
use Rattle.std.specs.Prelude.{◌&&◌, ◌||◌, ◌==◌, ℤ, pos, negsuc, Any, IsSomeAnd, IsTrue, Option, if◌then◌else◌, nat_lt, not, slice_index_or}
use Rattle.std.specs.Str.{bytes_eq}
use Rattle.xs_text.specs.Datatype.{is_scientific}
use Rattle.xs_text.specs.Decimal.{is_integer}
use Rattle.node_constraint.specs.Making.{IsDecimal, IsFloatFacet, IsReadable, IsSound, PatternText, is_double, pattern_in, patterns_in, range_value}
use Rattle.node_constraint.specs.declared.facet.Facet.{Facet}
use Rattle.node_constraint.specs.declared.facet.Facet.TheVariants as Facets
use Rattle.shexj_reader.proofs.Decimals.{signed_ascii, whole_is_decimal}
use Rattle.shexj_writer.specs.Constraints.{facet_key}
use Rattle.shexj_writer.specs.Numbers.{whole_value}
use Rattle.shexj_writer.specs.Plain.{all_under, facet_keys, plain_digits, plain_facet, plain_facets}
use Rattle.shexj_writer.proofs.Fields.{both}

-- ---- what holds of all facets

all_joined : {X : Type 0} (P : X → Type 0) (xs ys : List X) → AllByRecursion P xs → AllByRecursion P ys → AllByRecursion P (xs ++ ys)
all_joined P [] ys h k = k
all_joined P (x ∷ xs) ys h k = (h.0, all_joined P xs ys h.1 k)

kept_at : (P : Facet → Type 0) (b : Bool) (x : Facet) (ys : List Facet) → P (plain_facet x) → AllByRecursion P (map plain_facet ys) → AllByRecursion P (map plain_facet (cond b (x ∷ ys) ys))
kept_at P true x ys h rest = (h, rest)
kept_at P false x ys h rest = rest

all_kept : (P : Facet → Type 0) (p : Facet → Bool) (xs : List Facet) → AllByRecursion (λ facet. P (plain_facet facet)) xs → AllByRecursion P (map plain_facet (filter p xs))
all_kept P p [] h = tt
all_kept P p (x ∷ xs) h = kept_at P (p x) x (filter p xs) h.0 (all_kept P p xs h.1)

all_keys : (P : Facet → Type 0) (facets : List Facet) (keys : List (List ℕ)) → AllByRecursion (λ facet. P (plain_facet facet)) facets →
    AllByRecursion P (flat_map (λ key. map plain_facet (all_under key facets)) keys)
all_keys P facets [] h = tt
all_keys P facets (key ∷ keys) h =
    all_joined P (map plain_facet (all_under key facets)) (flat_map (λ k. map plain_facet (all_under k facets)) keys)
    (all_kept P (λ facet. bytes_eq (facet_key facet) key) facets h) (all_keys P facets keys h)

-- what holds of each facet in plain form holds of all plain facets
pub all_plain : (P : Facet → Type 0) (facets : List Facet) → AllByRecursion (λ facet. P (plain_facet facet)) facets → AllByRecursion P (plain_facets facets)
all_plain P facets h = all_keys P facets facet_keys h

-- ---- none and some

none_all : {X : Type 0} (P : X → Type 0) (xs : List X) → (¬ Any P xs) → AllByRecursion (λ x. ¬ P x) xs
none_all P [] none = tt
none_all P (x ∷ xs) none = (
  (λ h. none (0, x, omega arith, refl, h)),
  none_all P xs (λ some. none (suc some.0, some.1, omega (arith, some.2), some.3, some.4)),
)

all_none : {X : Type 0} (P : X → Type 0) (xs : List X) → AllByRecursion (λ x. ¬ P x) xs → (k : ℕ) (x : X) → k < length xs → slice_index_or xs k x ≡ x → P x → ⊥
all_none P [] all k x within at h = omega arith
all_none P (y ∷ xs) all zero x within at h = all.0 (subst P (sym at) h)
all_none P (y ∷ xs) all (suc k) x within at h = all_none P xs all.1 k x (omega arith) at h

not_any : {X : Type 0} (P : X → Type 0) (xs : List X) → AllByRecursion (λ x. ¬ P x) xs → ¬ Any P xs
not_any P xs all some = all_none P xs all some.0 some.1 some.2 some.3 some.4

-- ---- plain digits are no floating-point number

-- a character that stands in no plain digits
abbrev IsOther : ℕ → List ℕ → Type 0
IsOther letter text = list_any (λ c. c == letter) text ≡ false

neither : (a b : Bool) → (a || b) ≡ false → (a ≡ false) × (b ≡ false)
neither true b e = absurd (true≢false e)
neither false b e = (refl, e)

whole_length : (letter : ℕ) (text : List ℕ) → IsOther letter text → position_or_len (λ c. c == letter) text ≡ length text
whole_length letter [] h = refl
whole_length letter (c ∷ cs) h =
    let parts = neither (c == letter) (list_any (λ x. x == letter) cs) h in
    let rest = whole_length letter cs parts.1 in
    let one : 1 + length cs ≡ suc (length cs) = omega arith in
    ap (λ (b : Bool). cond (not b) (1 + position_or_len (λ x. x == letter) cs) 0) parts.0 ∙ (ap (λ (n : ℕ). 1 + n) rest ∙ one)

nothing_behind : (letter : ℕ) (text : List ℕ) → IsOther letter text → after_first (λ c. c == letter) text ≡ []
nothing_behind letter text h = ap (λ (n : ℕ). drop (n + 1) text) (whole_length letter text h) ∙ drop_all (length text + 1) text (omega arith)

and_false : (a b : Bool) → b ≡ false → (a && b) ≡ false
and_false true b e = e
and_false false b e = refl

not_scientific : (letter : ℕ) (text : List ℕ) → IsOther letter text → is_scientific letter text ≡ false
not_scientific letter text h = and_false _ _ (ap is_integer (nothing_behind letter text h))

-- digits and a minus are below the letters
abbrev AreLow : List ℕ → Bool
AreLow text = list_all (λ c. nat_lt c 58) text

glyph_low : (d : ℕ) → d < 10 → nat_lt (digit_glyph false d) 58 ≡ true
glyph_low d h = grind (arith, nat_tests)

both_true : (a b : Bool) → a ≡ true → b ≡ true → (a && b) ≡ true
both_true true b p q = q
both_true false b p q = p

either_low : (b : Bool) (xs ys : List ℕ) → AreLow xs ≡ true → AreLow ys ≡ true → AreLow (if b then xs else ys) ≡ true
either_low true xs ys p q = p
either_low false xs ys p q = q

onto_low : (k n : ℕ) (acc : List ℕ) → AreLow acc ≡ true → AreLow (digits_onto k 10 false n acc) ≡ true
onto_low zero n acc h = h
onto_low (suc k) n acc h =
    let more : AreLow (digit_glyph false (n % 10) ∷ acc) ≡ true = both_true _ _ (glyph_low (n % 10) (mod-lt n (omega arith))) h in
    either_low (n / 10 == 0) _ _ more (onto_low k (n / 10) _ more)

decimal_low : (n : ℕ) → AreLow (decimal n) ≡ true
unfolding digits
decimal_low n = onto_low 64 n [] refl

signed_low : (z : ℤ) → AreLow (signed_decimal z) ≡ true
signed_low (pos n) = decimal_low n
signed_low (negsuc n) = decimal_low (suc n)

low_other : (letter : ℕ) (text : List ℕ) → 58 ≤ letter → AreLow text ≡ true → IsOther letter text
low_other letter [] high h = refl
low_other letter (c ∷ cs) high h =
    let parts = both (nat_lt c 58) (AreLow cs) h in
    let apart : (c == letter) ≡ false = grind (arith, nat_tests) in
    ap (λ (b : Bool). b || list_any (λ x. x == letter) cs) apart ∙ low_other letter cs high parts.1

no_exponent : (z : ℤ) → is_double (signed_decimal z) ≡ false
no_exponent z =
    ap (λ (bs : List ℕ). is_scientific 101 bs || is_scientific 69 bs) (encodes-IsAscii (signed_decimal z) (signed_ascii z))
    ∙ ap (λ (b : Bool). b || is_scientific 69 (signed_decimal z)) (not_scientific 101 (signed_decimal z) (low_other 101 (signed_decimal z) (omega arith) (signed_low z)))
    ∙ not_scientific 69 (signed_decimal z) (low_other 69 (signed_decimal z) (omega arith) (signed_low z))

-- ---- nothing in plain form is refused

plain_double : (t : List ℕ) → ¬ IsTrue (is_double (plain_digits t))
plain_double t h = true≢false (sym h ∙ no_exponent (whole_value (encode_utf8_all t)))

not_float : (datatype : Option (List ℕ)) (facet : Facet) → (¬ IsFloatFacet datatype facet) → ¬ IsFloatFacet datatype (plain_facet facet)
not_float datatype (Facets.Length n) h = h
not_float datatype (Facets.MinLength n) h = h
not_float datatype (Facets.MaxLength n) h = h
not_float datatype (Facets.MinInclusive t) h = λ some. elim some [ inl double ↦ plain_double t double | inr beside ↦ h (inr beside) ]
not_float datatype (Facets.MinExclusive t) h = λ some. elim some [ inl double ↦ plain_double t double | inr beside ↦ h (inr beside) ]
not_float datatype (Facets.MaxInclusive t) h = λ some. elim some [ inl double ↦ plain_double t double | inr beside ↦ h (inr beside) ]
not_float datatype (Facets.MaxExclusive t) h = λ some. elim some [ inl double ↦ plain_double t double | inr beside ↦ h (inr beside) ]
not_float datatype (Facets.TotalDigits n) h = h
not_float datatype (Facets.FractionDigits n) h = h
not_float datatype (Facets.Pattern pattern flags) h = h

abbrev IsOtherNumber : Facet → Type 0
IsOtherNumber facet = IsSomeAnd (range_value facet) (λ value. ¬ IsDecimal value)

plain_decimal : (facet : Facet) → ¬ IsOtherNumber (plain_facet facet)
plain_decimal (Facets.Length n) h = h
plain_decimal (Facets.MinLength n) h = h
plain_decimal (Facets.MaxLength n) h = h
plain_decimal (Facets.MinInclusive t) h = h (whole_is_decimal (whole_value (encode_utf8_all t)))
plain_decimal (Facets.MinExclusive t) h = h (whole_is_decimal (whole_value (encode_utf8_all t)))
plain_decimal (Facets.MaxInclusive t) h = h (whole_is_decimal (whole_value (encode_utf8_all t)))
plain_decimal (Facets.MaxExclusive t) h = h (whole_is_decimal (whole_value (encode_utf8_all t)))
plain_decimal (Facets.TotalDigits n) h = h
plain_decimal (Facets.FractionDigits n) h = h
plain_decimal (Facets.Pattern pattern flags) h = h

all_so : {X : Type 0} (P : X → Type 0) (xs : List X) → ((x : X) → P x) → AllByRecursion P xs
all_so P [] h = tt
all_so P (x ∷ xs) h = (h x, all_so P xs h)

all_turned : {X : Type 0} (P Q : X → Type 0) (xs : List X) → ((x : X) → P x → Q x) → AllByRecursion P xs → AllByRecursion Q xs
all_turned P Q [] step h = tt
all_turned P Q (x ∷ xs) step h = (step x h.0, all_turned P Q xs step h.1)

-- patterns, facet by facet
same_pattern : (facet : Facet) → pattern_in (plain_facet facet) ≡ pattern_in facet
same_pattern (Facets.Length n) = refl
same_pattern (Facets.MinLength n) = refl
same_pattern (Facets.MaxLength n) = refl
same_pattern (Facets.MinInclusive t) = refl
same_pattern (Facets.MinExclusive t) = refl
same_pattern (Facets.MaxInclusive t) = refl
same_pattern (Facets.MaxExclusive t) = refl
same_pattern (Facets.TotalDigits n) = refl
same_pattern (Facets.FractionDigits n) = refl
same_pattern (Facets.Pattern pattern flags) = refl

all_cut : {X : Type 0} (P : X → Type 0) (xs ys : List X) → AllByRecursion P (xs ++ ys) → AllByRecursion P xs × AllByRecursion P ys
all_cut P [] ys h = (tt, h)
all_cut P (x ∷ xs) ys h = let rest = all_cut P xs ys h.1 in ((h.0, rest.0), rest.1)

by_facet : (P : PatternText → Type 0) (facets : List Facet) → AllByRecursion P (patterns_in facets) → AllByRecursion (λ facet. AllByRecursion P (pattern_in facet)) facets
by_facet P [] h = tt
by_facet P (f ∷ fs) h = let parts = all_cut P (pattern_in f) (patterns_in fs) h in (parts.0, by_facet P fs parts.1)

from_facets : (P : PatternText → Type 0) (facets : List Facet) → AllByRecursion (λ facet. AllByRecursion P (pattern_in facet)) facets → AllByRecursion P (patterns_in facets)
from_facets P [] h = tt
from_facets P (f ∷ fs) h = all_joined P (pattern_in f) (patterns_in fs) h.0 (from_facets P fs h.1)

-- the facets of a constraint that can be made can be made in plain form
pub plain_sound : (datatype : Option (List ℕ)) (facets : List Facet) → IsSound datatype facets → IsSound datatype (plain_facets facets)
plain_sound datatype facets sound = record {
  no_float = not_any (IsFloatFacet datatype) (plain_facets facets)
      (all_plain (λ facet. ¬ IsFloatFacet datatype facet) facets (all_turned (λ facet. ¬ IsFloatFacet datatype facet) (λ facet. ¬ IsFloatFacet datatype (plain_facet facet)) facets (not_float datatype) (none_all (IsFloatFacet datatype) facets sound.no_float)));
  decimal = not_any IsOtherNumber (plain_facets facets) (all_plain (λ facet. ¬ IsOtherNumber facet) facets (all_so (λ facet. ¬ IsOtherNumber (plain_facet facet)) facets plain_decimal));
  readable = from_facets IsReadable (plain_facets facets) (all_plain (λ facet. AllByRecursion IsReadable (pattern_in facet)) facets
      (all_turned (λ facet. AllByRecursion IsReadable (pattern_in facet)) (λ facet. AllByRecursion IsReadable (pattern_in (plain_facet facet))) facets (λ facet h. subst (AllByRecursion IsReadable) (sym (same_pattern facet)) h) (by_facet IsReadable facets sound.readable)));
}
