-- The part of a text between its marks.
use Rattle.std.proofs.Common.{◌≡◌, ℕ, suc, ◌+◌, ◌-◌, ◌<◌, Bool, true, false, ◌&&◌, List, [], ◌∷◌, ◌++◌, length, take, drop, get_or, length-append, length-drop, encode_utf8_all, refl, sym, ap, subst, ◌∙◌, arith, ◌⊎◌, inl, inr}
use Rattle.std.specs.Prelude.{nat_eq, nat_lt, not, slice_index, slice_range}
use Rattle.std.specs.List.{after_first, prefix_len}
use Rattle.std.specs.Str.{chars, IsUtf8, IsCharBoundary, NonePass}
use Rattle.std.proofs.lemmas.Bool.{eqb-true, eq-eqb}
use Rattle.std.proofs.lemmas.List.{drop-drop, append-nil}
use Rattle.std.proofs.lemmas.Str.{encodes-chars, encodes-append, encode_ascii, IsCharBoundary-from_drop, char_from_byte, inside_one}
use Rattle.std.proofs.Math.Utf8.{encode}
use Rattle.rdf_lex.specs.declared.kinds.Kind.{Kind}
use Rattle.rdf_lex.specs.declared.kinds.Kind.TheVariants.{IriRef, Str, PnameNs, PnameLn, AtName}
use Rattle.rdf_lex.specs.Characters.{short_char, text_escaped, hexadecimal}
use Rattle.rdf_lex.specs.Escapes.{IsEnclosed, IsQuoted, Body, has_long_marks, is_colon, IsBehindColon}
use Rattle.rdf_lex.specs.Phrases.{Spells}
use Rattle.rdf_lex.specs.Spelling.{short_body}
use Rattle.rdf_lex.proofs.Cuts.{cut_at, size-length}
use Rattle.rdf_lex.proofs.Languages.{to_past}
use Rattle.rdf_lex.proofs.Theorem.{size}

-- where the part begins and ends, and its characters
pub record IsPart (bs : List ℕ) (n : ℕ) (body : List ℕ) : Type 0 where
  pub whole : n + size body + n ≡ length bs
  pub begins : IsCharBoundary bs n
  pub ends : IsCharBoundary bs (n + size body)
  pub part : chars (take (size body) (drop n bs)) ≡ body

pub is_part : (bs : List ℕ) (n : ℕ) (body : List ℕ) → IsUtf8 bs → IsEnclosed bs n body → IsPart bs n body
is_part bs n body u e =
    let front : size e.front ≡ n = sym (size-length e.front) ∙ e.front_bytes in
    let back : size e.back ≡ n = sym (size-length e.back) ∙ e.back_bytes in
    let first = cut_at bs e.front (body ++ e.back) u e.parts in
    let rest : drop (size e.front) bs ≡ drop n bs = ap (λ (i : ℕ). drop i bs) front in
    let rest_utf8 = subst IsUtf8 rest first.last_utf8 in
    let second = cut_at (drop n bs) body e.back rest_utf8 (ap chars (sym rest) ∙ first.rest_is) in
    let last : drop (size body) (drop n bs) ≡ drop (n + size body) bs = drop-drop (size body) n bs in
    let all = length-drop n bs in
    let room = first.room in
    let behind = length-drop (size body) (drop n bs) in
    let tail : length (drop (size body) (drop n bs)) ≡ n = ap length second.dropped ∙ e.back_bytes in
    let fits = second.room in
    record {
      whole = omega arith;
      begins = IsCharBoundary-from_drop bs n (omega arith) rest_utf8;
      ends = IsCharBoundary-from_drop bs (n + size body) (omega arith) (subst IsUtf8 last second.last_utf8);
      part = second.front_is;
    }

pub ends_before : (bs : List ℕ) (n : ℕ) (body : List ℕ) → IsPart bs n body → IsCharBoundary bs (length bs - n)
ends_before bs n body p = let w = p.whole in let e : n + size body ≡ length bs - n = omega arith in subst (IsCharBoundary bs) e p.ends

pub part_is : (bs : List ℕ) (n : ℕ) (body r : List ℕ) → IsPart bs n body → r ≡ slice_range bs n (length bs - n) → chars r ≡ body
part_is bs n body r p e = let w = p.whole in let k : length bs - n - n ≡ size body = omega arith in ap chars (e ∙ ap (λ (i : ℕ). take i (drop n bs)) k) ∙ p.part

-- quotation marks
pub quote_byte : (q : ℕ) (rest : List ℕ) → q < 128 → encode_utf8_all (q ∷ rest) ≡ q ∷ encode_utf8_all rest
quote_byte q rest low = ap (λ (v : List ℕ). v ++ encode_utf8_all rest) (encode_ascii q low)

other_first : (q b : ℕ) (r : List ℕ) (t : Bool) → q < 128 → nat_eq q (slice_index (encode b ++ r) 0) ≡ t → 0 < length (encode b ++ r) → (b ≡ q → ⊥) → t ≡ false
other_first q b r true low e some never =
    let same : q ≡ get_or (encode b ++ r) 0 0 = eqb-true q (slice_index (encode b ++ r) 0) e in
    absurd (never (char_from_byte (encode b ++ r) r b refl (omega arith) some ∙ sym same))
other_first q b r false low e some never = refl

some_first : (b : ℕ) (r : List ℕ) → 0 < length r → 0 < length (encode b ++ r)
some_first b r some = simp length-append (omega arith)

short_marks : (q : ℕ) (bs body : List ℕ) → q < 128 → IsUtf8 bs → chars bs ≡ q ∷ (body ++ q ∷ []) → ((cs : List ℕ) → body ≡ q ∷ cs → ⊥) → has_long_marks bs ≡ false
short_marks q bs [] low u e never =
    let text : bs ≡ q ∷ q ∷ [] = sym (encodes-chars bs u) ∙ ap encode_utf8_all e ∙ quote_byte q (q ∷ []) low ∙ ap (λ (v : List ℕ). q ∷ v) (quote_byte q [] low) in
    ap has_long_marks text
short_marks q bs (b ∷ cs) low u e never =
    let text : bs ≡ q ∷ encode_utf8_all (b ∷ (cs ++ q ∷ [])) = sym (encodes-chars bs u) ∙ ap encode_utf8_all e ∙ quote_byte q (b ∷ (cs ++ q ∷ [])) low in
    let last : 0 < length (encode_utf8_all (cs ++ q ∷ [])) =
    simp (encodes-append, length-append) (let z : length (encode q) ≡ 1 = ap length (encode_ascii q low) in omega arith) in
    ap has_long_marks text ∙ and_false (nat_lt 2 (length (q ∷ encode_utf8_all (b ∷ (cs ++ q ∷ [])))))
    (nat_eq q (slice_index (encode b ++ encode_utf8_all (cs ++ q ∷ [])) 0))
    (other_first q b (encode_utf8_all (cs ++ q ∷ [])) _ low refl (some_first b (encode_utf8_all (cs ++ q ∷ [])) last) (λ f. never cs (ap (λ (x : ℕ). x ∷ cs) f)))
  where
    and_false : (a b : Bool) → b ≡ false → (a && b) ≡ false
    and_false true b e = e
    and_false false b e = refl

long_marks : (q : ℕ) (bs body : List ℕ) → q < 128 → IsUtf8 bs → chars bs ≡ q ∷ q ∷ q ∷ body → has_long_marks bs ≡ true
long_marks q bs body low u e =
    let text : bs ≡ q ∷ q ∷ q ∷ encode_utf8_all body = sym (encodes-chars bs u) ∙ ap encode_utf8_all e ∙ quote_byte q (q ∷ q ∷ body) low
    ∙ ap (λ (v : List ℕ). q ∷ v) (quote_byte q (q ∷ body) low ∙ ap (λ (v : List ℕ). q ∷ v) (quote_byte q body low)) in
    ap has_long_marks text ∙ both (nat_lt 2 (suc (suc (suc (length (encode_utf8_all body)))))) (nat_eq q q) (three (length (encode_utf8_all body))) (eq-eqb q q refl)
  where
    both : (a b : Bool) → a ≡ true → b ≡ true → (a && b) ≡ true
    both true b e f = f
    both false b e f = absurd cc

    three : (n : ℕ) → nat_lt 2 (suc (suc (suc n))) ≡ true
    three n = grind arith

pub not_double : (cs : List ℕ) → Spells (short_body 34) (34 ∷ cs) → ⊥
unfolding short_char text_escaped hexadecimal
not_double cs h = to_past (short_body 34) 34 cs h

pub not_single : (cs : List ℕ) → Spells (short_body 39) (39 ∷ cs) → ⊥
unfolding short_char text_escaped hexadecimal
not_single cs h = to_past (short_body 39) 39 cs h

no_quote : (q : ℕ) (body : List ℕ) → ((cs : List ℕ) → Spells (short_body q) (q ∷ cs) → ⊥) → Spells (short_body q) body → (cs : List ℕ) → body ≡ q ∷ cs → ⊥
no_quote q body never h cs e = never cs (subst (λ (v : List ℕ). Spells (short_body q) v) e h)

one_mark : (q : ℕ) (bs body : List ℕ) → q < 128 → chars bs ≡ q ∷ (body ++ q ∷ []) → IsEnclosed bs 1 body
one_mark q bs body low e = record { front = q ∷ []; back = q ∷ []; parts = e; front_bytes = ap length (quote_byte q [] low); back_bytes = ap length (quote_byte q [] low) }

three_marks : (q : ℕ) (bs body : List ℕ) → q < 128 → chars bs ≡ q ∷ q ∷ q ∷ (body ++ q ∷ q ∷ q ∷ []) → IsEnclosed bs 3 body
three_marks q bs body low e = record { front = q ∷ q ∷ q ∷ []; back = q ∷ q ∷ q ∷ []; parts = e; front_bytes = bytes; back_bytes = bytes }
  where
    bytes : length (encode_utf8_all (q ∷ q ∷ q ∷ [])) ≡ 3
    bytes = ap length (quote_byte q (q ∷ q ∷ []) low ∙ ap (λ (v : List ℕ). q ∷ v) (quote_byte q (q ∷ []) low ∙ ap (λ (v : List ℕ). q ∷ v) (quote_byte q [] low)))

quoted_by : (q : ℕ) (bs body : List ℕ) → q < 128 → ((cs : List ℕ) → Spells (short_body q) (q ∷ cs) → ⊥) → IsUtf8 bs → IsQuoted q (chars bs) body
    → ((has_long_marks bs ≡ false) × IsEnclosed bs 1 body) ⊎ ((has_long_marks bs ≡ true) × IsEnclosed bs 3 body)
quoted_by q bs body low never u (inl (e, h)) = inl (short_marks q bs body low u e (no_quote q body never h), one_mark q bs body low e)
quoted_by q bs body low never u (inr (e, h)) = inr (long_marks q bs (body ++ q ∷ q ∷ q ∷ []) low u e, three_marks q bs body low e)

pub quoted_in : (bs body : List ℕ) → IsUtf8 bs → Body Str (chars bs) body → ((has_long_marks bs ≡ false) × IsEnclosed bs 1 body) ⊎ ((has_long_marks bs ≡ true) × IsEnclosed bs 3 body)
quoted_in bs body u (inl h) = quoted_by 34 bs body (omega arith) not_double u h
quoted_in bs body u (inr h) = quoted_by 39 bs body (omega arith) not_single u h

apart : (b : Bool) → b ≡ true → b ≡ false → ⊥
apart b e f = cc

pub in_one : (bs body : List ℕ) → IsUtf8 bs → has_long_marks bs ≡ false → Body Str (chars bs) body → IsEnclosed bs 1 body
in_one bs body u e h = by (quoted_in bs body u h)
  where
    by : ((has_long_marks bs ≡ false) × IsEnclosed bs 1 body) ⊎ ((has_long_marks bs ≡ true) × IsEnclosed bs 3 body) → IsEnclosed bs 1 body
    by (inl k) = k.1
    by (inr k) = absurd (apart (has_long_marks bs) k.0 e)

pub in_three : (bs body : List ℕ) → IsUtf8 bs → has_long_marks bs ≡ true → Body Str (chars bs) body → IsEnclosed bs 3 body
in_three bs body u e h = by (quoted_in bs body u h)
  where
    by : ((has_long_marks bs ≡ false) × IsEnclosed bs 1 body) ⊎ ((has_long_marks bs ≡ true) × IsEnclosed bs 3 body) → IsEnclosed bs 3 body
    by (inl k) = absurd (apart (has_long_marks bs) e k.0)
    by (inr k) = k.1

-- an IRI
pub iri_enclosed : (bs body : List ℕ) → chars bs ≡ 60 ∷ (body ++ 62 ∷ []) → IsEnclosed bs 1 body
iri_enclosed bs body e = record { front = 60 ∷ []; back = 62 ∷ []; parts = e; front_bytes = ap length (quote_byte 60 [] (omega arith)); back_bytes = ap length (quote_byte 62 [] (omega arith)) }

-- behind a colon
no_colon_byte : (c : ℕ) (k : ℕ) → nat_eq c 58 ≡ false → k < length (encode c) → nat_eq (get_or (encode c) k 0) 58 ≡ false
no_colon_byte c k e lt = by (nat_eq (get_or (encode c) k 0) 58) refl
  where
    by : (b : Bool) → nat_eq (get_or (encode c) k 0) 58 ≡ b → b ≡ false
    by true f =
        let at : get_or (encode c) k 0 ≡ 58 = eqb-true (get_or (encode c) k 0) 58 f in
        let same = inside_one c [] (encode c) k (sym (append-nil (encode c))) lt (omega arith) in
        absurd (apart (nat_eq c 58) (eq-eqb c 58 (same ∙ at)) e)
    by false f = refl

none_at : (t : ℕ → Bool) (xs : List ℕ) → ((k : ℕ) → k < length xs → t (get_or xs k 0) ≡ false) → NonePass t xs
none_at t [] f = tt
none_at t (x ∷ xs) f = (f 0 (omega arith), none_at t xs (λ k lt. f (suc k) (omega arith)))

none_on : (t : ℕ → Bool) (xs ys : List ℕ) → NonePass t xs → NonePass t ys → NonePass t (xs ++ ys)
none_on t [] ys h k = k
none_on t (x ∷ xs) ys (e, h) k = (e, none_on t xs ys h k)

no_colon_bytes : (cs : List ℕ) → NonePass is_colon cs → NonePass is_colon (encode_utf8_all cs)
no_colon_bytes [] h = tt
no_colon_bytes (c ∷ cs) (e, h) = none_on is_colon (encode c) (encode_utf8_all cs) (none_at is_colon (encode c) (λ k lt. no_colon_byte c k e lt)) (no_colon_bytes cs h)

after_none : (xs ys : List ℕ) → NonePass is_colon xs → after_first is_colon (xs ++ 58 ∷ ys) ≡ ys
after_none [] ys h = refl
after_none (x ∷ xs) ys (e, h) = rw e (one_on (prefix_len (λ b. not (is_colon b)) (xs ++ 58 ∷ ys)) x (xs ++ 58 ∷ ys)) ∙ after_none xs ys h
  where
    one_on : (n x : ℕ) (zs : List ℕ) → drop (1 + n + 1) (x ∷ zs) ≡ drop (n + 1) zs
    one_on n x zs = let f : 1 + n + 1 ≡ suc (n + 1) = omega arith in ap (λ (i : ℕ). drop i (x ∷ zs)) f

pub behind_is : (bs body rest : List ℕ) → IsUtf8 bs → IsBehindColon (chars bs) body → rest ≡ after_first is_colon bs → chars rest ≡ body
behind_is bs body rest u (front, e, none) is =
    let low : encode_utf8_all (58 ∷ body) ≡ 58 ∷ encode_utf8_all body = quote_byte 58 body (omega arith) in
    let text : bs ≡ encode_utf8_all front ++ 58 ∷ encode_utf8_all body =
    sym (encodes-chars bs u) ∙ ap encode_utf8_all e ∙ encodes-append front (58 ∷ body) ∙ ap (λ (v : List ℕ). encode_utf8_all front ++ v) low in
    let after : rest ≡ encode_utf8_all body = is ∙ ap (after_first is_colon) text ∙ after_none (encode_utf8_all front) (encode_utf8_all body) (no_colon_bytes front none) in
    let cut = cut_at bs (front ++ 58 ∷ []) body u (e ∙ sym (split front body)) in
    ap chars after ∙ ap chars (sym cut.dropped) ∙ cut.rest_is
  where
    split : (front body : List ℕ) → (front ++ 58 ∷ []) ++ body ≡ front ++ 58 ∷ body
    split [] body = refl
    split (x ∷ xs) body = ap (λ (v : List ℕ). x ∷ v) (split xs body)

-- by the kind
pub iri_of : (k : Kind) (bs body : List ℕ) → k ≡ IriRef → Body k (chars bs) body → IsEnclosed bs 1 body
iri_of k bs body e h = iri_enclosed bs body (subst (λ (j : Kind). Body j (chars bs) body) e h)

pub name_of : (k : Kind) (text body : List ℕ) → (k ≡ PnameNs) ⊎ ((k ≡ PnameLn) ⊎ (k ≡ AtName)) → Body k text body → IsBehindColon text body
name_of k text body (inl e) h = subst (λ (j : Kind). Body j text body) e h
name_of k text body (inr (inl e)) h = subst (λ (j : Kind). Body j text body) e h
name_of k text body (inr (inr e)) h = subst (λ (j : Kind). Body j text body) e h
