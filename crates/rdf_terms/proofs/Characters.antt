-- Characters and their bytes.
use Rattle.std.proofs.Common.{◌≡◌, ℕ, ◌<◌, ◌≤◌, ◌&&◌, Bool, true, false, not, List, [], ◌∷◌, ◌++◌, refl, ap, sym, ◌∙◌, length, get_or, suc, arith, map, encode_utf8_all, nat_eq, nat_lt, nat_le, drop, ltb-true, ◌⊎◌, inl, inr}
use Rattle.std.proofs.Math.Utf8.{encode}
use Rattle.std.proofs.lemmas.Bool.{and_parts, ne_eqb}
use Rattle.std.proofs.lemmas.Bool.Decides.{Decides-eqb, nat_tests}
use Rattle.std.proofs.lemmas.List.{append-nil, map-append, length-append}
use Rattle.std.proofs.lemmas.Slice.Eq.{starts_is}
use Rattle.std.proofs.lemmas.Str.{inside_one, encode_ascii, encodes-IsAscii, chars_from_encodes, length-encode, len_utf8_bounds, char_from_byte, chars-append, chars-IsAscii, encodes-chars, IsUtf8-from_ascii}
use Rattle.std.proofs.lemmas.Str.Ascii.{lowercase_is, lowercase_ascii, IsAscii-nil, IsAscii-cons}
use Rattle.std.specs.Char.{to_ascii_lowercase}
use Rattle.std.specs.List.{list_all, starts_with}
use Rattle.std.specs.Str.{chars, IsUtf8, IsAscii}
use Rattle.rdf_terms.specs.Literals.{is_lowered}

cons_same : {x y : ℕ} {xs ys : List ℕ} → x ≡ y → xs ≡ ys → x ∷ xs ≡ y ∷ ys
cons_same p q = cc

pub low_or_high : (c : ℕ) → (c < 128) ⊎ (128 ≤ c)
low_or_high c = grind arith

-- each byte of a character beyond ASCII is beyond ASCII
pub high_bytes : (c k : ℕ) → 128 ≤ c → k < length (encode c) → 128 ≤ get_or (encode c) k 0
high_bytes c k high within =
    by (low_or_high (get_or (encode c) k 0))
  where
    by : (get_or (encode c) k 0 < 128) ⊎ (128 ≤ get_or (encode c) k 0) → 128 ≤ get_or (encode c) k 0
    by (inl low) =
        let same : c ≡ get_or (encode c) k 0 = inside_one c [] (encode c) k (sym (append-nil (encode c))) within low in
        absurd (omega arith)
    by (inr enough) = enough

map_high : (f : ℕ → ℕ) (xs : List ℕ) → ((b : ℕ) → 128 ≤ b → f b ≡ b) → ((k : ℕ) → k < length xs → 128 ≤ get_or xs k 0) → map f xs ≡ xs
map_high f [] same high = refl
map_high f (x ∷ xs) same high = cons_same (same x (high 0 (omega arith))) (map_high f xs same (λ k h. high (suc k) (omega arith)))

-- a text in lower case
lowered_char : (c : ℕ) → map to_ascii_lowercase (encode c) ≡ encode (to_ascii_lowercase c)
lowered_char c = by (low_or_high c)
  where
    by : (c < 128) ⊎ (128 ≤ c) → map to_ascii_lowercase (encode c) ≡ encode (to_ascii_lowercase c)
    by (inl low) = ap (map to_ascii_lowercase) (encode_ascii c low) ∙ sym (encode_ascii (to_ascii_lowercase c) (lowercase_ascii c low))
    by (inr high) =
        map_high to_ascii_lowercase (encode c) (λ b h. (lowercase_is b).2 (omega arith)) (λ k h. high_bytes c k high h)
        ∙ ap encode (sym ((lowercase_is c).2 (omega arith)))

lowered_encodes : (cs : List ℕ) → encode_utf8_all (map to_ascii_lowercase cs) ≡ map to_ascii_lowercase (encode_utf8_all cs)
lowered_encodes [] = refl
lowered_encodes (c ∷ cs) =
    ap (λ z. z ++ encode_utf8_all (map to_ascii_lowercase cs)) (sym (lowered_char c))
    ∙ ap (λ z. map to_ascii_lowercase (encode c) ++ z) (lowered_encodes cs)
    ∙ sym (map-append to_ascii_lowercase (encode c) (encode_utf8_all cs))

pub lowered_chars : (bs cs : List ℕ) → IsUtf8 (map to_ascii_lowercase bs) → encode_utf8_all cs ≡ bs → chars (map to_ascii_lowercase bs) ≡ map to_ascii_lowercase cs
lowered_chars bs cs utf8 e = sym (chars_from_encodes (map to_ascii_lowercase cs) _ utf8 (lowered_encodes cs ∙ ap (map to_ascii_lowercase) e))

no_capital : (c : ℕ) → not (nat_le 65 (to_ascii_lowercase c) && nat_le (to_ascii_lowercase c) 90) ≡ true
no_capital c = grind (arith, nat_tests)

pub lowered : (cs : List ℕ) → is_lowered (map to_ascii_lowercase cs) ≡ true
lowered [] = refl
lowered (c ∷ cs) = ap (λ b. b && is_lowered (map to_ascii_lowercase cs)) (no_capital c) ∙ lowered cs

-- an ASCII text begins the characters where it begins the bytes
starts_high : (bs p : List ℕ) (x : ℕ) → x < 128 → 0 < length bs → 128 ≤ get_or bs 0 0 → starts_with nat_eq bs (x ∷ p) ≡ false
starts_high [] p x low some high = absurd (omega arith)
starts_high (b ∷ bs) p x low some high = ap (λ z. z && starts_with nat_eq bs p) (ne_eqb x b (λ e. let same : x ≡ b = e in omega arith))

starts_char : (c x : ℕ) (r p : List ℕ) → x < 128 → 128 ≤ c → starts_with nat_eq (encode c ++ r) (x ∷ p) ≡ false
starts_char c x r p low high = starts_high (encode c ++ r) p x low some (by (low_or_high (get_or (encode c ++ r) 0 0)))
  where
    some : 0 < length (encode c ++ r)
    some = let k = len_utf8_bounds c in omega (arith, length-append (encode c) r, length-encode c)

    by : (get_or (encode c ++ r) 0 0 < 128) ⊎ (128 ≤ get_or (encode c ++ r) 0 0) → 128 ≤ get_or (encode c ++ r) 0 0
    by (inl first) =
        let same : c ≡ get_or (encode c ++ r) 0 0 = char_from_byte (encode c ++ r) r c refl first some in
        absurd (omega arith)
    by (inr enough) = enough

abbrev pub is_ascii : List ℕ → Bool
is_ascii p = list_all (λ x. nat_lt x 128) p

starts_more : (c x : ℕ) (cs p : List ℕ) → x < 128 → starts_with nat_eq (encode_utf8_all cs) p ≡ starts_with nat_eq cs p →
    starts_with nat_eq (encode c ++ encode_utf8_all cs) (x ∷ p) ≡ starts_with nat_eq (c ∷ cs) (x ∷ p)
starts_more c x cs p low rest = by (low_or_high c)
  where
    by : (c < 128) ⊎ (128 ≤ c) → starts_with nat_eq (encode c ++ encode_utf8_all cs) (x ∷ p) ≡ starts_with nat_eq (c ∷ cs) (x ∷ p)
    by (inl small) = ap (λ z. starts_with nat_eq (z ++ encode_utf8_all cs) (x ∷ p)) (encode_ascii c small) ∙ ap (λ z. nat_eq x c && z) rest
    by (inr high) = starts_char c x (encode_utf8_all cs) p low high ∙ sym (ap (λ z. z && starts_with nat_eq cs p) (ne_eqb x c (λ e. let same : x ≡ c = e in omega arith)))

pub starts_encodes : (cs p : List ℕ) → is_ascii p ≡ true → starts_with nat_eq (encode_utf8_all cs) p ≡ starts_with nat_eq cs p
starts_encodes cs [] h = refl
starts_encodes [] (x ∷ p) h = refl
starts_encodes (c ∷ cs) (x ∷ p) h =
    let k = and_parts (nat_lt x 128) (is_ascii p) h in
    starts_more c x cs p (ltb-true x 128 k.0) (starts_encodes cs p k.1)

pub starts : (bs p : List ℕ) → starts_with nat_eq bs p ≡ true → bs ≡ p ++ drop (length p) bs
starts bs p h = (starts_is Decides-eqb bs p (starts_with nat_eq bs p) refl).0 h

pub starts_not : (bs p : List ℕ) → ((rest : List ℕ) → ¬ (bs ≡ p ++ rest)) → starts_with nat_eq bs p ≡ false
starts_not bs p none = by (starts_with nat_eq bs p) refl
  where
    by : (b : Bool) → starts_with nat_eq bs p ≡ b → b ≡ false
    by true h = absurd (none _ (starts bs p h))
    by false h = refl

-- an ASCII text stands for the same characters and bytes
pub front_chars : (p rest : List ℕ) → IsAscii p → chars (p ++ rest) ≡ p ++ chars rest
front_chars p rest low = chars-append p rest (IsUtf8-from_ascii p low) ∙ ap (λ z. z ++ chars rest) (chars-IsAscii p low)

pub ascii_bytes : (bs cs : List ℕ) → IsUtf8 bs → IsAscii cs → chars bs ≡ cs → bs ≡ cs
ascii_bytes bs cs utf8 low e = sym (encodes-chars bs utf8) ∙ ap encode_utf8_all e ∙ encodes-IsAscii cs low

pub ascii_codes : (p : List ℕ) → is_ascii p ≡ true → IsAscii p
ascii_codes [] h = IsAscii-nil
ascii_codes (x ∷ p) h =
    let k = and_parts (nat_lt x 128) (is_ascii p) h in
    IsAscii-cons x p (ltb-true x 128 k.0) (ascii_codes p k.1)
