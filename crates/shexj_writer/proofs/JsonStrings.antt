-- The strings of a JSON text are UTF-8 where the text is.
use Rattle.std.proofs.Common.{◌≡◌, ◌∙◌, ap, refl, sym, subst, ℕ, zero, suc, ◌+◌, ◌*◌, ◌≤◌, ◌<◌, arith, Bool, true, false, cond, List, [], ◌∷◌, ◌++◌, length, get_or, inl, inr, lit<}
use Rattle.std.proofs.lemmas.Bool.{cases_lt}
use Rattle.std.proofs.lemmas.Bool.Decides.{nat_tests}
use Rattle.std.proofs.lemmas.List.{append-nil, length-append}
use Rattle.std.proofs.lemmas.Str.{IsCharBoundary-after_ascii, IsUtf8-append, IsUtf8-drop, IsUtf8-encode, IsUtf8-from_ascii, IsUtf8-nil, byte_from_char, inside_one, length-encode, len_utf8_bounds}
use Rattle.std.specs.Char.{IsScalar, digit_value, encode_utf8, is_digit}
use Rattle.std.specs.List.{list_all}
use Rattle.std.specs.Prelude.{◌&&◌, ◌==◌, nat_le, nat_lt, Option, Some, None, option_and_then, encode_utf8_all}
use Rattle.std.specs.Str.{IsAscii, IsUtf8, all_scalars}
use lib.Utf8.{scalar}
use Rattle.json.specs.Ascii as ascii
use Rattle.json.specs.Text.{after_backslash, after_high, after_u, code_unit, content, is_high_surrogate, is_low_surrogate, plain, prepend, short_escape, surrogate_pair}
use Rattle.shexj_writer.proofs.Fields.{both}

-- ---- what follows an ASCII byte

rest_utf8 : (x : ℕ) (xs : List ℕ) → x < 128 → IsUtf8 (x ∷ xs) → IsUtf8 xs
rest_utf8 x xs low h = IsUtf8-drop (x ∷ xs) 1 h (IsCharBoundary-after_ascii (x ∷ xs) 0 h (omega arith) low)

one_ascii : (x : ℕ) → x < 128 → IsUtf8 (x ∷ [])
one_ascii x low = IsUtf8-from_ascii (x ∷ []) at
  where
    at : IsAscii (x ∷ [])
    at zero = low
    at (suc i) = omega arith

-- what is put before a string that is UTF-8
before : (bs : List ℕ) (o : Option (List ℕ)) (s : List ℕ) → IsUtf8 bs → ((t : List ℕ) → o ≡ Some t → IsUtf8 t) → prepend bs o ≡ Some s → IsUtf8 s
before bs None s h rest e = absurd (cc)
before bs (Some t) s h rest e = let same : bs ++ t ≡ s = cc in subst IsUtf8 same (IsUtf8-append bs t h (rest t refl))

-- ---- characters beyond ASCII

abbrev are_high : List ℕ → Bool
are_high bs = list_all (λ b. nat_le 128 b) bs

high_step : (q e l : Bool) (a b c d : Option (List ℕ)) → q ≡ false → e ≡ false → l ≡ false → cond q a (cond e b (cond l c d)) ≡ d
high_step q e l a b c d p r s = ap (λ (x : Bool). cond x a (cond e b (cond l c d))) p ∙ (ap (λ (x : Bool). cond x b (cond l c d)) r ∙ ap (λ (x : Bool). cond x c d) s)

no_byte : (b k : ℕ) → k < 128 → nat_le 128 b ≡ true → (b == k) ≡ false
no_byte b k low h = grind (arith, nat_tests)

no_low : (b : ℕ) → nat_le 128 b ≡ true → nat_lt b 32 ≡ false
no_low b h = grind (arith, nat_tests)

prepended : (b : ℕ) (bs : List ℕ) (o : Option (List ℕ)) → prepend (b ∷ []) (prepend bs o) ≡ prepend (b ∷ bs) o
prepended b bs None = refl
prepended b bs (Some s) = refl

nothing_before : (o : Option (List ℕ)) → o ≡ prepend [] o
nothing_before None = refl
nothing_before (Some s) = refl

high_content : (bs r : List ℕ) → are_high bs ≡ true → content plain (bs ++ r) ≡ prepend bs (content plain r)
unfolding content
high_content [] r h = nothing_before (content plain r)
high_content (b ∷ bs) r h =
    let parts = both (nat_le 128 b) (are_high bs) h in
    high_step (b == ascii.quote) (b == ascii.backslash) (nat_lt b ascii.space) _ _ _ _ (no_byte b 34 (lit< tt) parts.0) (no_byte b 92 (lit< tt) parts.0) (no_low b parts.0)
    ∙ (ap (prepend (b ∷ [])) (high_content bs r parts.1) ∙ prepended b bs (content plain r))

high_all : (bs : List ℕ) → ((k : ℕ) → k < length bs → 128 ≤ get_or bs k 0) → are_high bs ≡ true
high_all [] h = refl
high_all (b ∷ bs) h =
    let first : 128 ≤ b = h 0 (omega arith) in
    let own : nat_le 128 b ≡ true = grind (arith, nat_tests) in
    ap (λ (x : Bool). x && are_high bs) own ∙ high_all bs (λ k l. h (suc k) (omega arith))

left_at : (bs r : List ℕ) (k : ℕ) → k < length bs → get_or (bs ++ r) k 0 ≡ get_or bs k 0
left_at [] r k l = absurd (omega arith)
left_at (b ∷ bs) r zero l = refl
left_at (b ∷ bs) r (suc k) l = left_at bs r k (omega arith)

high_character : (c : ℕ) → 128 ≤ c → are_high (encode_utf8 c) ≡ true
high_character c high = high_all (encode_utf8 c) at
  where
    at : (k : ℕ) → k < length (encode_utf8 c) → 128 ≤ get_or (encode_utf8 c) k 0
    at k l = elim (cases_lt (get_or (encode_utf8 c) k 0) 128) [
      | inl low ↦ let same : c ≡ get_or (encode_utf8 c ++ []) k 0 =
          inside_one c [] (encode_utf8 c ++ []) k refl l (subst (λ (n : ℕ). n < 128) (sym (left_at (encode_utf8 c) [] k l)) low) in let own = left_at (encode_utf8 c) [] k l in absurd (omega arith)
      | inr fine ↦ fine
    ]

-- ---- escapes

short_ascii : (y c : ℕ) → short_escape y ≡ Some c → (y < 128) × (c < 128)
unfolding short_escape
short_ascii y c e = grind (arith, nat_tests)

digit_ascii : (x : ℕ) → is_digit x 16 ≡ true → (x < 128) × (digit_value x < 16)
digit_ascii x h = grind (arith, nat_tests)

record IsUnit (a b c d u : ℕ) : Type 0 where
  first : a < 128
  second : b < 128
  third : c < 128
  fourth : d < 128
  small : u < 65536

unit_from : (p : Bool) (a b c d u : ℕ) → (is_digit a 16 && is_digit b 16 && is_digit c 16 && is_digit d 16) ≡ p →
    cond p (Some (digit_value a * 4096 + digit_value b * 256 + digit_value c * 16 + digit_value d)) None ≡ Some u → IsUnit a b c d u
unit_from false a b c d u h e = absurd (cc)
unit_from true a b c d u h e =
    let three = both (is_digit a 16 && is_digit b 16 && is_digit c 16) (is_digit d 16) h in
    let two = both (is_digit a 16 && is_digit b 16) (is_digit c 16) three.0 in
    let one = both (is_digit a 16) (is_digit b 16) two.0 in
    let pa = digit_ascii a one.0 in let pb = digit_ascii b one.1 in let pc = digit_ascii c two.1 in let pd = digit_ascii d three.1 in
    let is : digit_value a * 4096 + digit_value b * 256 + digit_value c * 16 + digit_value d ≡ u = cc in
    record { first = pa.0; second = pb.0; third = pc.0; fourth = pd.0; small = omega (arith, pa.1, pb.1, pc.1, pd.1, is) }

unit_is : (a b c d u : ℕ) → code_unit a b c d ≡ Some u → IsUnit a b c d u
unfolding code_unit
unit_is a b c d u e = unit_from (is_digit a 16 && is_digit b 16 && is_digit c 16 && is_digit d 16) a b c d u refl e

past_unit : (a b c d u : ℕ) (xs : List ℕ) → IsUnit a b c d u → IsUtf8 (a ∷ b ∷ c ∷ d ∷ xs) → IsUtf8 xs
past_unit a b c d u xs is h = rest_utf8 d xs is.fourth (rest_utf8 c (d ∷ xs) is.third (rest_utf8 b (c ∷ d ∷ xs) is.second (rest_utf8 a (b ∷ c ∷ d ∷ xs) is.first h)))

unit_scalar : (u : ℕ) → u < 65536 → is_high_surrogate u ≡ false → is_low_surrogate u ≡ false → IsScalar u
unit_scalar u small high low = grind (arith, nat_tests)

pair_scalar : (h l : ℕ) → is_high_surrogate h ≡ true → is_low_surrogate l ≡ true → IsScalar (surrogate_pair h l)
pair_scalar h l high low = grind (arith, nat_tests)

-- ---- the content of a string

ascii_of : (x k : ℕ) → k < 128 → (x == k) ≡ true → x < 128
ascii_of x k low h = grind (arith, nat_tests)

-- what is read of at most so many bytes is UTF-8
abbrev ContentHolds : ℕ → Type 0
ContentHolds n = (xs s : List ℕ) → length xs ≤ n → IsUtf8 xs → content plain xs ≡ Some s → IsUtf8 s

low_at : (b : Bool) (h l u : ℕ) (o : Option (List ℕ)) (s : List ℕ) → is_low_surrogate l ≡ b → is_high_surrogate h ≡ true → ((t : List ℕ) → o ≡ Some t → IsUtf8 t)
    → cond b (prepend (encode_utf8 (surrogate_pair h l)) o) None ≡ Some s → IsUtf8 s
low_at true h l u o s low high rest e = before (encode_utf8 (surrogate_pair h l)) o s (IsUtf8-encode (surrogate_pair h l) (pair_scalar h l high low)) rest e
low_at false h l u o s low high rest e = absurd (cc)

pair_unit : (o : Option ℕ) (a b c d h : ℕ) (xs s : List ℕ) (n : ℕ) → ContentHolds n → code_unit a b c d ≡ o → is_high_surrogate h ≡ true → length xs ≤ n → IsUtf8 (a ∷ b ∷ c ∷ d ∷ xs)
    → option_and_then (λ l. cond (is_low_surrogate l) (prepend (encode_utf8 (surrogate_pair h l)) (content plain xs)) None) o ≡ Some s → IsUtf8 s
pair_unit None a b c d h xs s n ih is high few utf8 e = absurd (cc)
pair_unit (Some l) a b c d h xs s n ih is high few utf8 e =
    let own = unit_is a b c d l is in
    low_at (is_low_surrogate l) h l 0 (content plain xs) s refl high (λ t r. ih xs t few (past_unit a b c d l xs own utf8) r) e

pair_at : (p : Bool) (x y a b c d h : ℕ) (xs s : List ℕ) (n : ℕ) → ContentHolds n → ((x == ascii.backslash) && (y == ascii.lower_u)) ≡ p →
    is_high_surrogate h ≡ true → length xs ≤ n → IsUtf8 (x ∷ y ∷ a ∷ b ∷ c ∷ d ∷ xs)
    → cond p (option_and_then (λ l. cond (is_low_surrogate l) (prepend (encode_utf8 (surrogate_pair h l)) (content plain xs)) None) (code_unit a b c d)) None ≡ Some s → IsUtf8 s
pair_at false x y a b c d h xs s n ih is high few utf8 e = absurd (cc)
pair_at true x y a b c d h xs s n ih is high few utf8 e =
    let parts = both (x == ascii.backslash) (y == ascii.lower_u) is in
    let low_x : x < 128 = ascii_of x 92 (lit< tt) parts.0 in
    let low_y : y < 128 = ascii_of y 117 (lit< tt) parts.1 in
    pair_unit (code_unit a b c d) a b c d h xs s n ih refl high few (rest_utf8 y (a ∷ b ∷ c ∷ d ∷ xs) low_y (rest_utf8 x (y ∷ a ∷ b ∷ c ∷ d ∷ xs) low_x utf8)) e

pair_holds : (n : ℕ) → ContentHolds n → (h : ℕ) (xs s : List ℕ) → is_high_surrogate h ≡ true → length xs ≤ n → IsUtf8 xs → content (after_high h) xs ≡ Some s → IsUtf8 s
unfolding content
pair_holds n ih h [] s high few utf8 e = absurd (cc)
pair_holds n ih h (x ∷ []) s high few utf8 e = absurd (cc)
pair_holds n ih h (x ∷ y ∷ []) s high few utf8 e = absurd (cc)
pair_holds n ih h (x ∷ y ∷ a ∷ []) s high few utf8 e = absurd (cc)
pair_holds n ih h (x ∷ y ∷ a ∷ b ∷ []) s high few utf8 e = absurd (cc)
pair_holds n ih h (x ∷ y ∷ a ∷ b ∷ c ∷ []) s high few utf8 e = absurd (cc)
pair_holds n ih h (x ∷ y ∷ a ∷ b ∷ c ∷ d ∷ xs) s high few utf8 e = pair_at ((x == ascii.backslash) && (y == ascii.lower_u)) x y a b c d h xs s n ih refl high (omega arith) utf8 e

low_unit : (b : Bool) (u : ℕ) (o : Option (List ℕ)) (s : List ℕ) → is_low_surrogate u ≡ b → is_high_surrogate u ≡ false → u < 65536 → ((t : List ℕ) → o ≡ Some t → IsUtf8 t)
    → cond b None (prepend (encode_utf8 u) o) ≡ Some s → IsUtf8 s
low_unit true u o s low high small rest e = absurd (cc)
low_unit false u o s low high small rest e = before (encode_utf8 u) o s (IsUtf8-encode u (unit_scalar u small high low)) rest e

high_unit : (b : Bool) (u : ℕ) (xs s : List ℕ) (n : ℕ) → ContentHolds n → is_high_surrogate u ≡ b → u < 65536 → length xs ≤ n → IsUtf8 xs
    → cond b (content (after_high u) xs) (cond (is_low_surrogate u) None (prepend (encode_utf8 u) (content plain xs))) ≡ Some s → IsUtf8 s
high_unit true u xs s n ih high small few utf8 e = pair_holds n ih u xs s high few utf8 e
high_unit false u xs s n ih high small few utf8 e = low_unit (is_low_surrogate u) u (content plain xs) s refl high small (λ t r. ih xs t few utf8 r) e

unit_at : (o : Option ℕ) (a b c d : ℕ) (xs s : List ℕ) (n : ℕ) → ContentHolds n → code_unit a b c d ≡ o → length xs ≤ n → IsUtf8 (a ∷ b ∷ c ∷ d ∷ xs)
    → option_and_then (λ u. cond (is_high_surrogate u) (content (after_high u) xs) (cond (is_low_surrogate u) None (prepend (encode_utf8 u) (content plain xs)))) o ≡ Some s → IsUtf8 s
unit_at None a b c d xs s n ih is few utf8 e = absurd (cc)
unit_at (Some u) a b c d xs s n ih is few utf8 e =
    let own = unit_is a b c d u is in
    high_unit (is_high_surrogate u) u xs s n ih refl own.small few (past_unit a b c d u xs own utf8) e

unit_holds : (n : ℕ) → ContentHolds n → (xs s : List ℕ) → length xs ≤ n → IsUtf8 xs → content after_u xs ≡ Some s → IsUtf8 s
unfolding content
unit_holds n ih [] s few utf8 e = absurd (cc)
unit_holds n ih (a ∷ []) s few utf8 e = absurd (cc)
unit_holds n ih (a ∷ b ∷ []) s few utf8 e = absurd (cc)
unit_holds n ih (a ∷ b ∷ c ∷ []) s few utf8 e = absurd (cc)
unit_holds n ih (a ∷ b ∷ c ∷ d ∷ xs) s few utf8 e = unit_at (code_unit a b c d) a b c d xs s n ih refl (omega arith) utf8 e

short_at : (o : Option ℕ) (x : ℕ) (xs s : List ℕ) (n : ℕ) → ContentHolds n → short_escape x ≡ o → length xs ≤ n → IsUtf8 (x ∷ xs) →
    option_and_then (λ c. prepend (c ∷ []) (content plain xs)) o ≡ Some s → IsUtf8 s
short_at None x xs s n ih is few utf8 e = absurd (cc)
short_at (Some c) x xs s n ih is few utf8 e =
    let low = short_ascii x c is in
    before (c ∷ []) (content plain xs) s (one_ascii c low.1) (λ t r. ih xs t few (rest_utf8 x xs low.0 utf8) r) e

escape_at : (b : Bool) (x : ℕ) (xs s : List ℕ) (n : ℕ) → ContentHolds n → (x == ascii.lower_u) ≡ b → length xs ≤ n → IsUtf8 (x ∷ xs)
    → cond b (content after_u xs) (option_and_then (λ c. prepend (c ∷ []) (content plain xs)) (short_escape x)) ≡ Some s → IsUtf8 s
escape_at true x xs s n ih is few utf8 e = unit_holds n ih xs s few (rest_utf8 x xs (ascii_of x 117 (lit< tt) is) utf8) e
escape_at false x xs s n ih is few utf8 e = short_at (short_escape x) x xs s n ih refl few utf8 e

escape_holds : (n : ℕ) → ContentHolds n → (xs s : List ℕ) → length xs ≤ n → IsUtf8 xs → content after_backslash xs ≡ Some s → IsUtf8 s
unfolding content
escape_holds n ih [] s few utf8 e = absurd (cc)
escape_holds n ih (x ∷ xs) s few utf8 e = escape_at (x == ascii.lower_u) x xs s n ih refl (omega arith) utf8 e

control_at : (b : Bool) (x : ℕ) (xs s : List ℕ) (n : ℕ) → ContentHolds n → x < 128 → length xs ≤ n → IsUtf8 (x ∷ xs) → cond b None (prepend (x ∷ []) (content plain xs)) ≡ Some s → IsUtf8 s
control_at true x xs s n ih low few utf8 e = absurd (cc)
control_at false x xs s n ih low few utf8 e = before (x ∷ []) (content plain xs) s (one_ascii x low) (λ t r. ih xs t few (rest_utf8 x xs low utf8) r) e

backslash_at : (b : Bool) (x : ℕ) (xs s : List ℕ) (n : ℕ) → ContentHolds n → x < 128 → length xs ≤ n → IsUtf8 (x ∷ xs)
    → cond b (content after_backslash xs) (cond (nat_lt x ascii.space) None (prepend (x ∷ []) (content plain xs))) ≡ Some s → IsUtf8 s
backslash_at true x xs s n ih low few utf8 e = escape_holds n ih xs s few (rest_utf8 x xs low utf8) e
backslash_at false x xs s n ih low few utf8 e = control_at (nat_lt x ascii.space) x xs s n ih low few utf8 e

quote_at : (b : Bool) (x : ℕ) (xs s : List ℕ) (n : ℕ) → ContentHolds n → x < 128 → length xs ≤ n → IsUtf8 (x ∷ xs)
    → cond b (Some []) (cond (x == ascii.backslash) (content after_backslash xs) (cond (nat_lt x ascii.space) None (prepend (x ∷ []) (content plain xs)))) ≡ Some s → IsUtf8 s
quote_at true x xs s n ih low few utf8 e = let same : [] ≡ s = cc in subst IsUtf8 same IsUtf8-nil
quote_at false x xs s n ih low few utf8 e = backslash_at (x == ascii.backslash) x xs s n ih low few utf8 e

-- a text that begins beyond ASCII begins with a character beyond ASCII
record BeginsHigh (x : ℕ) (xs : List ℕ) : Type 0 where
  c : ℕ
  rest : List ℕ
  is : x ∷ xs ≡ encode_utf8 c ++ rest
  high : 128 ≤ c
  own : IsUtf8 (encode_utf8 c)
  utf8 : IsUtf8 rest

begins_from : (cs : List ℕ) (x : ℕ) (xs : List ℕ) → 128 ≤ x → all_scalars cs ≡ true → encode_utf8_all cs ≡ x ∷ xs → BeginsHigh x xs
begins_from [] x xs high fine e = absurd (cc)
begins_from (c ∷ cs) x xs high fine e =
    let parts = both (scalar c) (all_scalars cs) fine in
    let is : x ∷ xs ≡ encode_utf8 c ++ encode_utf8_all cs = sym e in
    record {
      c = c;
      rest = encode_utf8_all cs;
      is = is;
      high = elim (cases_lt c 128) [ inl low ↦ let same : x ≡ c = byte_from_char (x ∷ xs) (encode_utf8_all cs) c is low in absurd (omega arith) | inr fine ↦ fine ];
      own = (c ∷ [], (ap (λ (b : Bool). b && true) parts.0, append-nil (encode_utf8 c)));
      utf8 = (cs, (parts.1, refl));
    }

high_at : (x : ℕ) (xs s : List ℕ) (n : ℕ) → ContentHolds n → length xs ≤ n → BeginsHigh x xs → content plain (x ∷ xs) ≡ Some s → IsUtf8 s
high_at x xs s n ih few b e =
    let size : suc (length xs) ≡ length (encode_utf8 b.c) + length b.rest = ap length b.is ∙ length-append (encode_utf8 b.c) b.rest in
    let some : 1 ≤ length (encode_utf8 b.c) = omega (arith, length-encode b.c, (len_utf8_bounds b.c).0) in
    before (encode_utf8 b.c) (content plain b.rest) s b.own (λ t r. ih b.rest t (omega arith) b.utf8 r)
    (sym (ap (content plain) b.is ∙ high_content (encode_utf8 b.c) b.rest (high_character b.c b.high)) ∙ e)

pub content_holds : (n : ℕ) → ContentHolds n
unfolding content
content_holds zero [] s few utf8 e = absurd (cc)
content_holds zero (x ∷ xs) s few utf8 e = absurd (omega arith)
content_holds (suc n) [] s few utf8 e = absurd (cc)
content_holds (suc n) (x ∷ xs) s few utf8 e = elim (cases_lt x 128) [
  | inl low ↦ quote_at (x == ascii.quote) x xs s n (content_holds n) low (omega arith) utf8 e
  | inr high ↦ high_at x xs s n (content_holds n) (omega arith) (begins_from utf8.0 x xs high utf8.1.0 utf8.1.1) e
]
