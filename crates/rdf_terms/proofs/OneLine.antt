-- Texts on one line: lists without the number of a line feed, and their UTF-8.
use Rattle.std.proofs.Common.{◌≡◌, ℕ, ◌+◌, ◌/◌, ◌<◌, Bool, true, false, cond, ◌&&◌, ltb, nat_eq, List, [], ◌∷◌, ◌++◌, take, drop, Contains, encode_utf8, encode_utf8_all, refl, sym, ap, subst, ◌∙◌, arith, true≢false, length, get_or, length-append, take_at, drop_at, append_assoc}
use Rattle.std.specs.List.{list_all, All}
use Rattle.std.specs.Str.{chars, IsUtf8, NonePass}
use Rattle.std.proofs.lemmas.Bool.{eqb-true, ne_eqb}
use Rattle.std.proofs.lemmas.List.{take-append-drop, get_or_at}
use Rattle.std.proofs.lemmas.List.Elements.{All-contains, All-nil, All-cons, Contains-push, Contains-append_left, Contains-append_right}
use Rattle.std.proofs.lemmas.Str.{encodes-chars, IsUtf8-append, IsUtf8-nil, IsUtf8-take, IsUtf8-drop, IsCharBoundary-before_ascii, IsCharBoundary-after_ascii}
use Rattle.std.proofs.Math.Utf8.{encode, next}
use Rattle.rdf_terms.specs.OneLine.{IsOneLine}

-- no element is the number of a line feed
abbrev pub Plain : List ℕ → Type 0
Plain xs = NonePass (λ c. nat_eq c 10) xs

pub plain_append : (xs ys : List ℕ) → Plain xs → Plain ys → Plain (xs ++ ys)
plain_append [] ys h k = k
plain_append (x ∷ xs) ys (e, h) k = (e, plain_append xs ys h k)

pub plain_left : (xs ys : List ℕ) → Plain (xs ++ ys) → Plain xs
plain_left [] ys h = tt
plain_left (x ∷ xs) ys (e, h) = (e, plain_left xs ys h)

pub plain_right : (xs ys : List ℕ) → Plain (xs ++ ys) → Plain ys
plain_right [] ys h = h
plain_right (x ∷ xs) ys (e, h) = plain_right xs ys h

pub plain_take : (n : ℕ) (xs : List ℕ) → Plain xs → Plain (take n xs)
plain_take n xs h = plain_left (take n xs) (drop n xs) (subst Plain (sym (take-append-drop n xs)) h)

pub plain_drop : (n : ℕ) (xs : List ℕ) → Plain xs → Plain (drop n xs)
plain_drop n xs h = plain_right (take n xs) (drop n xs) (subst Plain (sym (take-append-drop n xs)) h)

-- where a test refuses the line feed, a list that passes it has none
passes : (p : ℕ → Bool) (c : ℕ) (b : Bool) → p 10 ≡ false → p c ≡ true → nat_eq c 10 ≡ b → b ≡ false
passes p c true off on e = absurd (true≢false (sym on ∙ ap p (eqb-true c 10 e) ∙ off))
passes p c false off on e = refl

pub both : (a b : Bool) → (a && b) ≡ true → (a ≡ true) × (b ≡ true)
both true b e = (refl, e)
both false b e = absurd (true≢false (sym e))

pub plain_passing : (p : ℕ → Bool) (xs : List ℕ) → p 10 ≡ false → list_all p xs ≡ true → Plain xs
plain_passing p [] off h = tt
plain_passing p (x ∷ xs) off h = let a = both (p x) (list_all p xs) h in (passes p x (nat_eq x 10) off a.0 refl, plain_passing p xs off a.1)

-- the words of the contracts
all_plain : (xs : List ℕ) → Plain xs → All (λ c. nat_eq c 10 ≡ false) xs
all_plain [] h = All-nil (λ c. nat_eq c 10 ≡ false)
all_plain (x ∷ xs) (e, h) = All-cons (λ c. nat_eq c 10 ≡ false) x xs e (all_plain xs h)

pub lacks_feed : (xs : List ℕ) → Plain xs → ¬ Contains xs 10
lacks_feed xs h c = true≢false (All-contains (λ c. nat_eq c 10 ≡ false) xs 10 (all_plain xs h) c)

not_ten : (x : ℕ) (xs : List ℕ) (b : Bool) → nat_eq x 10 ≡ b → ¬ Contains (x ∷ xs) 10 → b ≡ false
not_ten x xs true e n = absurd (n (subst (λ (y : ℕ). Contains (x ∷ xs) y) (eqb-true x 10 e) (Contains-append_left (x ∷ []) xs x (Contains-push [] x))))
not_ten x xs false e n = refl

pub plain_lacking : (xs : List ℕ) → ¬ Contains xs 10 → Plain xs
plain_lacking [] n = tt
plain_lacking (x ∷ xs) n = (not_ten x xs (nat_eq x 10) refl n, plain_lacking xs (λ c. n (Contains-append_right (x ∷ []) xs 10 c)))

-- UTF-8: all bytes of a character beyond ASCII are above 127
above : (k n : ℕ) → 10 < k → nat_eq (k + n) 10 ≡ false
above k n h = ne_eqb (k + n) 10 (λ e. absurd (omega (arith, h, e)))

encode_by : (c : ℕ) (a b d : Bool) → nat_eq c 10 ≡ false
    → Plain (cond a (c ∷ []) (cond b ((192 + c / 64) ∷ next c ∷ []) (cond d ((224 + c / 4096) ∷ next (c / 64) ∷ next c ∷ []) ((240 + c / 262144) ∷ next (c / 4096) ∷ next (c / 64) ∷ next c ∷ []))))
encode_by c true b d e = (e, tt)
encode_by c false true d e = (above 192 _ (omega arith), (above 128 _ (omega arith), tt))
encode_by c false false true e = (above 224 _ (omega arith), (above 128 _ (omega arith), (above 128 _ (omega arith), tt)))
encode_by c false false false e = (above 240 _ (omega arith), (above 128 _ (omega arith), (above 128 _ (omega arith), (above 128 _ (omega arith), tt))))

pub plain_encode : (c : ℕ) → nat_eq c 10 ≡ false → Plain (encode_utf8 c)
unfolding encode
plain_encode c e = encode_by c (ltb c 128) (ltb c 2048) (ltb c 65536) e

pub plain_encodes : (cs : List ℕ) → Plain cs → Plain (encode_utf8_all cs)
plain_encodes [] h = tt
plain_encodes (c ∷ cs) (e, h) = plain_append (encode_utf8 c) (encode_utf8_all cs) (plain_encode c e) (plain_encodes cs h)

feed_encoded : ¬ Plain (encode_utf8 10)
unfolding encode
feed_encoded h = true≢false h.0

plain_first : (c : ℕ) (b : Bool) → nat_eq c 10 ≡ b → Plain (encode_utf8 c) → b ≡ false
plain_first c true e h = absurd (feed_encoded (subst (λ (x : ℕ). Plain (encode_utf8 x)) (eqb-true c 10 e) h))
plain_first c false e h = refl

pub plain_decodes : (cs : List ℕ) → Plain (encode_utf8_all cs) → Plain cs
plain_decodes [] h = tt
plain_decodes (c ∷ cs) h =
    (plain_first c (nat_eq c 10) refl (plain_left (encode_utf8 c) (encode_utf8_all cs) h), plain_decodes cs (plain_right (encode_utf8 c) (encode_utf8_all cs) h))

pub plain_chars : (bs : List ℕ) → IsUtf8 bs → Plain bs → Plain (chars bs)
plain_chars bs u h = plain_decodes (chars bs) (subst Plain (sym (encodes-chars bs u)) h)

pub plain_bytes : (bs : List ℕ) → IsUtf8 bs → Plain (chars bs) → Plain bs
plain_bytes bs u h = subst Plain (encodes-chars bs u) (plain_encodes (chars bs) h)

-- bytes of UTF-8 without a line feed
abbrev pub Clean : List ℕ → Type 0
Clean bs = IsUtf8 bs × Plain bs

pub clean_nil : Clean []
clean_nil = (IsUtf8-nil, tt)

pub clean_append : (xs ys : List ℕ) → Clean xs → Clean ys → Clean (xs ++ ys)
clean_append xs ys (u, h) (v, k) = (IsUtf8-append xs ys u v, plain_append xs ys h k)

-- on both sides of a character of ASCII
pub clean_cut : (xs ys : List ℕ) (c : ℕ) → c < 128 → Clean (xs ++ c ∷ ys) → Clean xs × Clean ys
clean_cut xs ys c low (u, h) =
    let bs = xs ++ c ∷ ys in
    let at : get_or bs (length xs) 0 ≡ c = get_or_at xs c ys 0 (length xs) refl in
    let size : length bs ≡ length xs + length (c ∷ ys) = length-append xs (c ∷ ys) in
    let lt : length xs < length bs = omega arith in
    let byte : get_or bs (length xs) 0 < 128 = omega arith in
    let front = IsUtf8-take bs (length xs) u (IsCharBoundary-before_ascii bs (length xs) lt byte) in
    let back = IsUtf8-drop bs (length xs + 1) u (IsCharBoundary-after_ascii bs (length xs) u lt byte) in
    let rest : drop (length xs + 1) bs ≡ ys = ap (drop (length xs + 1)) (sym (append_assoc xs (c ∷ []) ys)) ∙ drop_at (xs ++ c ∷ []) ys (length xs + 1) (length-append xs (c ∷ [])) in
    ((subst IsUtf8 (take_at xs (c ∷ ys) (length xs) refl) front, plain_left xs (c ∷ ys) h), (subst IsUtf8 rest back, (plain_right xs (c ∷ ys) h).1))

-- the words of the laws
pub line_is : (bytes : List ℕ) → Clean bytes → IsOneLine bytes
line_is bytes h = record { utf8 = h.0; no_feed = lacks_feed bytes h.1 }

pub clean_line : (bytes : List ℕ) → IsOneLine bytes → Clean bytes
clean_line bytes h = (h.utf8, plain_lacking bytes h.no_feed)
