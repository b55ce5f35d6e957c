-- Terms from their texts.
use Rattle.std.proofs.Common.{◌≡◌, ℕ, zero, suc, ◌<◌, ◌&&◌, ◌≢◌, ◌⊎◌, inl, inr, List, [], ◌∷◌, ◌++◌, refl, ap, sym, ◌∙◌, subst, length, get_or, take, drop, ◌+◌, ◌-◌, arith, Bool, true, false, true≢false, not, nat_le, nat_eq, map, codes, encode_utf8_all, Option, Some, None, IsSome, IsNone, IfSome, Bor, MatchOption, lit<, ◌↔◌, IsTrue, option_map, Result, Ok, Err, IfOk}
use Rattle.std.proofs.Math.Utf8.{encode}
use Rattle.std.proofs.lemmas.Bool.{and_parts, cond-true, cond-false}
use Rattle.std.proofs.lemmas.Bool.Decides.{nat_tests}
use Rattle.std.proofs.lemmas.Grind.{flat_map-append}
use Rattle.std.proofs.lemmas.List.{append-nil, append_assoc, length-append}
use Rattle.std.proofs.lemmas.Str.{encode_ascii, encodes-chars, scalars-chars, chars-encodes, encodes-IsAscii, encodes-append, length-encode, len_utf8_bounds}
use Rattle.std.proofs.lemmas.Str.Pattern.{strip_prefix_char, strip_suffix_char}
use Rattle.std.specs.Char.{to_ascii_lowercase}
use Rattle.std.specs.Cmp.Lexicographic.{pointwise}
use Rattle.std.specs.List.{flat_map, starts_with}
use Rattle.std.specs.Str.{chars, all_scalars, IsUtf8}
use Rattle.std.specs.Str.Pattern.{FindsCharPrefix, FindsCharSuffix}
use Rattle.rdf_terms.specs.Laws.{IsName}
use Rattle.rdf_terms.specs.Literals.{LiteralParts, IsLowered, is_lowered}
use Rattle.rdf_terms.specs.Vocabulary.{rdf_lang_string, xsd_string}
use Rattle.rdf_terms.specs.Names.{IsNameOf, written_label}
use Rattle.rdf_terms.specs.Reading.{IsBracketed, IsEscape, IsLiteralOf, IsOwned, IsPiece, IsQuoted, IsRead, suffix_of}
use Rattle.rdf_terms.specs.TextBytes.{escaped_byte}
use Rattle.rdf_terms.specs.Texts.{same_text}
use Rattle.rdf_terms.specs.Values.{IsLiteralValue, IsUnicode, IsUnicodeIfAny, IsWholeName, IsWholeTerm}
use Rattle.rdf_terms.specs.Written.{escaped, iri_text, literal_text, printed_name, term_text}
use Rattle.rdf_terms.specs.declared.reader.Piece.{Piece}
use Rattle.rdf_terms.specs.declared.reader.Piece.TheVariants.{Character, Quote, Wrong}
use Rattle.rdf_terms.specs.declared.terms.Name.{Name}
use Rattle.rdf_terms.specs.declared.terms.Name.TheVariants.{Label, Fresh}
use Rattle.rdf_terms.specs.declared.terms.Term.{Term}
use Rattle.rdf_terms.specs.declared.terms.Term.TheVariants.{Iri, Blank, Lit}
use Rattle.rdf_terms.proofs.Anonymous.{anonymous_bytes}
use Rattle.rdf_terms.proofs.Characters.{ascii_codes, starts, starts_encodes, front_chars}
use Rattle.rdf_terms.proofs.DistinctTexts.{IsCode, Spelling, short, plain, spelling, first_byte, lex_once, lex_rest, iri_once, Suffix, tag, string, typed, suffix, not_head, not_empty, same_tails}
use Rattle.rdf_terms.proofs.Escapes.{escaped_bytes, escaped_character}
use Rattle.rdf_terms.proofs.PrintedNames.{printed_read, names_one}

-- ---- angle brackets

pub bracketless : (text : List ℕ) (r : Option (Bor (List ℕ))) → MatchOption r (FindsCharPrefix 60 text None) (λ x. (n : ℕ) × FindsCharPrefix 60 text (Some n) ×
    (x.now ≡ drop n text) × (length x.now + n ≡ length text)) →
    r ≡ None → (iri : List ℕ) → text ≡ codes "<" ++ (iri ++ codes ">") → ⊥
bracketless text r h is iri e =
    (subst (λ o. MatchOption o ((rest : List ℕ) → text ≢ 60 ∷ rest) (λ x. text ≡ 60 ∷ x.now)) is (strip_prefix_char 60 text r h (lit< tt))) (iri ++ codes ">") e

pub bracketed : (text rest : List ℕ) (r : Option (Bor (List ℕ))) (x : Bor (List ℕ)) →
    MatchOption r (FindsCharPrefix 60 text None) (λ x. (n : ℕ) × FindsCharPrefix 60 text (Some n) × (x.now ≡ drop n text) × (length x.now + n ≡ length text)) →
    r ≡ Some x → x.now ≡ rest →
    (o : Option (Bor (List ℕ))) → MatchOption o (FindsCharSuffix 62 rest None) (λ x. (n : ℕ) × FindsCharSuffix 62 rest (Some n) ×
    (x.now ≡ take (length rest - n) rest) × (length x.now + n ≡ length rest)) → IsBracketed o text
bracketed text rest r x h is same o k = by o (strip_suffix_char 62 rest o k (lit< tt))
  where
    front : text ≡ 60 ∷ rest
    front = (subst (λ o. MatchOption o ((rest : List ℕ) → text ≢ 60 ∷ rest) (λ x. text ≡ 60 ∷ x.now)) is (strip_prefix_char 60 text r h (lit< tt))) ∙ ap (λ z. 60 ∷ z) same

    by : (o : Option (Bor (List ℕ))) → MatchOption o ((front : List ℕ) → rest ≢ front ++ (62 ∷ [])) (λ x. rest ≡ x.now ++ (62 ∷ [])) → IsBracketed o text
    by None none = λ iri e. none iri (same_tails 60 60 rest (iri ++ 62 ∷ []) (sym front ∙ e))
    by (Some y) some = front ∙ ap (λ z. 60 ∷ z) some

owned_text : (text copy : List ℕ) → IsUtf8 text → copy ≡ chars text → IsOwned text copy
owned_text text copy utf8 is = (sym (encodes-chars text utf8) ∙ ap encode_utf8_all (sym is), subst IsUnicode (sym is) (scalars-chars text utf8))

pub owned_result : {E : Type 0} (text : List ℕ) (r : Result (List ℕ) E) → IsUtf8 text → IfOk r (λ t. t ≡ chars text) → IfOk r (IsOwned text)
owned_result text (Ok copy) utf8 is = owned_text text copy utf8 is
owned_result text (Err e) utf8 is = tt

pub iri_read : (text iri read : List ℕ) → text ≡ codes "<" ++ (iri ++ codes ">") → IsOwned iri read → (text ≡ iri_text read) × IsUnicode read
iri_read text iri read e owned = (e ∙ ap (λ z. 60 ∷ (z ++ 62 ∷ [])) owned.0, owned.1)

-- ---- printed names

scalars_drop : (n : ℕ) (cs : List ℕ) → all_scalars cs ≡ true → all_scalars (drop n cs) ≡ true
scalars_drop zero cs h = h
scalars_drop (suc n) [] h = h
scalars_drop (suc n) (c ∷ cs) h = scalars_drop n cs (and_parts _ (all_scalars cs) h).1

written_scalars : (text : List ℕ) → all_scalars text ≡ true → all_scalars (written_label text) ≡ true
written_scalars text h = by (starts_with nat_eq text (codes "anon_anon")) refl
  where
    by : (b : Bool) → starts_with nat_eq text (codes "anon_anon") ≡ b → all_scalars (written_label text) ≡ true
    by true is = ap all_scalars (cond-true _ _ _ is) ∙ scalars_drop 5 text h
    by false is = ap all_scalars (cond-false _ _ _ is) ∙ h

pub label_whole : (text : List ℕ) (name : Name) (label : List ℕ) → IsUtf8 text → name ≡ Label label → IsNameOf (chars text) name → IsWholeName name
label_whole text name label utf8 is named =
    let own : IsNameOf (chars text) (Label label) = subst (IsNameOf (chars text)) is named in
    subst IsWholeName (sym is) (tt, ap all_scalars own.1 ∙ written_scalars (chars text) (scalars-chars text utf8))

pub number_printed : (text : List ℕ) (name : Name) (n : ℕ) → IsUtf8 text → name ≡ Fresh n → IsNameOf (chars text) name → text ≡ printed_name name
number_printed text name n utf8 is named =
    let own : IsNameOf (chars text) (Fresh n) = subst (IsNameOf (chars text)) is named in
    (anonymous_bytes text n utf8 own).spelled ∙ ap printed_name (sym is)

-- a label that begins with anon has the mark before it in its text
marked_text : (text label : List ℕ) → IsUtf8 text → starts_with nat_eq text (codes "anon_anon") ≡ true → label ≡ written_label (chars text) →
    starts_with nat_eq label (codes "anon") ≡ true → text ≡ printed_name (Label label)
marked_text text label utf8 marked is begins =
    let rest = drop 9 text in
    let front : text ≡ codes "anon_anon" ++ rest = starts text (codes "anon_anon") marked in
    let its : chars text ≡ codes "anon_anon" ++ chars rest = ap chars front ∙ front_chars (codes "anon_anon") rest (ascii_codes (codes "anon_anon") refl) in
    let made : label ≡ codes "anon" ++ chars rest = is ∙ ap written_label its in
    sym (encodes-chars text utf8) ∙ ap encode_utf8_all (its ∙ ap (λ z. codes "anon_" ++ z) (sym made))
    ∙ encodes-append (codes "anon_") label ∙ ap (λ z. z ++ encode_utf8_all label) (encodes-IsAscii (codes "anon_") (ascii_codes (codes "anon_") refl))
    ∙ ap (λ z. z ++ encode_utf8_all label) (sym (cond-true _ _ _ begins))

unmarked_text : (text label : List ℕ) → IsUtf8 text → starts_with nat_eq text (codes "anon_anon") ≡ false → label ≡ written_label (chars text) → label ≡ chars text
unmarked_text text label utf8 unmarked is =
    let other : starts_with nat_eq (chars text) (codes "anon_anon") ≡ false =
    sym (starts_encodes (chars text) (codes "anon_anon") refl) ∙ ap (λ z. starts_with nat_eq z (codes "anon_anon")) (encodes-chars text utf8) ∙ unmarked in
    is ∙ cond-false _ _ _ other

bare_text : (text label : List ℕ) → IsUtf8 text → label ≡ written_label (chars text) → starts_with nat_eq label (codes "anon") ≡ false → text ≡ printed_name (Label label)
bare_text text label utf8 is bare = by (starts_with nat_eq text (codes "anon_anon")) refl
  where
    by : (b : Bool) → starts_with nat_eq text (codes "anon_anon") ≡ b → text ≡ printed_name (Label label)
    by true marked =
        let its : chars text ≡ codes "anon_anon" ++ chars (drop 9 text) = ap chars (starts text (codes "anon_anon") marked) ∙ front_chars (codes "anon_anon")
        (drop 9 text) (ascii_codes (codes "anon_anon") refl) in
        absurd (true≢false (sym (ap (λ z. starts_with nat_eq z (codes "anon")) (is ∙ ap written_label its)) ∙ bare))
    by false unmarked =
        let same = unmarked_text text label utf8 unmarked is in
        sym (encodes-chars text utf8) ∙ ap encode_utf8_all (sym same) ∙ ap (λ z. z ++ encode_utf8_all label) (sym (cond-false _ _ _ bare))

unprinted : (text label : List ℕ) → IsUtf8 text → label ≡ written_label (chars text) → starts_with nat_eq label (codes "anon") ≡ true →
    starts_with nat_eq text (codes "anon_anon") ≡ false → text ≡ printed_name (Label label) → ⊥
unprinted text label utf8 is begins unmarked e =
    let same = unmarked_text text label utf8 unmarked is in
    let longer : text ≡ codes "anon_" ++ text = e ∙ ap (λ z. z ++ encode_utf8_all label) (cond-true _ _ _ begins) ∙ ap (λ z. codes "anon_" ++ z) (ap encode_utf8_all same ∙ encodes-chars text utf8) in
    omega (arith, ap length longer)

pub label_printed : (text label : List ℕ) (a b : Bool) → IsUtf8 text → IsNameOf (chars text) (Label label) → a ≡ starts_with nat_eq label (codes "anon") →
    a ≡ true → b ≡ starts_with nat_eq text (codes "anon_anon") →
    IsTrue b ↔ (text ≡ printed_name (Label label))
label_printed text label true true utf8 named begins marked is = (λ h. marked_text text label utf8 (sym is) named.1 (sym begins), λ e. refl)
label_printed text label true false utf8 named begins marked is = (λ h. absurd (true≢false (sym h)), λ e. absurd (unprinted text label utf8 named.1 (sym begins) (sym is) e))
label_printed text label false b utf8 named begins marked is = absurd (true≢false (sym marked))

pub bare_printed : (text label : List ℕ) (a : Bool) → IsUtf8 text → IsNameOf (chars text) (Label label) → a ≡ starts_with nat_eq label (codes "anon") →
    a ≡ false → IsTrue (not a) ↔ (text ≡ printed_name (Label label))
bare_printed text label true utf8 named begins marked = absurd (true≢false marked)
bare_printed text label false utf8 named begins marked = (λ h. bare_text text label utf8 named.1 (sym begins), λ e. refl)

its_name : (name : Name) → IsWholeName name → IsName name
its_name (Label label) h = h.1
its_name (Fresh n) h = (h.0, h.1)

pub name_missed : (text : List ℕ) (name : Name) (b : Bool) → IsNameOf (chars text) name → IsTrue b ↔ (text ≡ printed_name name) → b ≡ false → (x : Name) → IsWholeName x → text ≡ printed_name x → ⊥
name_missed text name b named printed other x whole e =
    let own : IsNameOf (chars text) x = subst (λ z. IsNameOf (chars z) x) (sym e) (printed_read x (its_name x whole)) in
    let same : name ≡ x = names_one (chars text) name x named own in
    true≢false (sym (printed.1 (e ∙ ap printed_name (sym same))) ∙ other)

-- ---- quoted strings

code_low : (e : ℕ) → IsCode e → e < 128
code_low e (inl h) = omega arith
code_low e (inr (inl h)) = omega arith
code_low e (inr (inr (inl h))) = omega arith
code_low e (inr (inr (inr h))) = omega arith

no_code : (e : ℕ) → e ≢ 34 → e ≢ 92 → e ≢ 110 → e ≢ 114 → IsCode e → ⊥
no_code e a b f g (inl h) = a h
no_code e a b f g (inr (inl h)) = b h
no_code e a b f g (inr (inr (inl h))) = f h
no_code e a b f g (inr (inr (inr h))) = g h

-- what a backslash and a character that is no code begin is no character of a quoted string
no_piece : (code c : ℕ) (rest more : List ℕ) → ¬ IsCode code → 92 ∷ (encode code ++ rest) ≡ escaped c ++ more → ⊥
no_piece code c rest more none is = by (spelling c)
  where
    by : Spelling c → ⊥
    by (short e coded means spelled) =
        let tails : encode code ++ rest ≡ e ∷ more = same_tails 92 92 _ _ (is ∙ ap (λ z. z ++ more) spelled) in
        let same : code ≡ e = first_byte code e rest more (code_low e coded) tails in
        none (subst IsCode (sym same) coded)
    by (plain spelled p q u v) = q (first_byte c 92 more (encode code ++ rest) (omega arith) (ap (λ z. z ++ more) (sym spelled) ∙ sym is))

-- no quoted character begins with a line feed, a carriage return or a quote, or is a backslash alone
pub no_raw : (b c : ℕ) (rest more : List ℕ) → (b ≡ 10) ⊎ (b ≡ 13) → b ∷ rest ≡ escaped c ++ more → ⊥
no_raw b c rest more raw is = by raw (spelling c)
  where
    by : (b ≡ 10) ⊎ (b ≡ 13) → Spelling c → ⊥
    by (inl feed) (short e coded means spelled) = not_head b 92 rest (e ∷ more) (λ k. omega arith) (is ∙ ap (λ z. z ++ more) spelled)
    by (inr feed) (short e coded means spelled) = not_head b 92 rest (e ∷ more) (λ k. omega arith) (is ∙ ap (λ z. z ++ more) spelled)
    by (inl feed) (plain spelled p q u v) = u (first_byte c b more rest (omega arith) (ap (λ z. z ++ more) (sym spelled) ∙ sym is) ∙ feed)
    by (inr feed) (plain spelled p q u v) = v (first_byte c b more rest (omega arith) (ap (λ z. z ++ more) (sym spelled) ∙ sym is) ∙ feed)

some_byte : (c : ℕ) → 0 < length (escaped c)
some_byte c = by (spelling c)
  where
    by : Spelling c → 0 < length (escaped c)
    by (short e coded means spelled) = omega (arith, ap length spelled)
    by (plain spelled p q u v) = let some = len_utf8_bounds c in omega (arith, ap length spelled, length-encode c)

pub no_end : (c : ℕ) (more : List ℕ) → [] ≡ escaped c ++ more → ⊥
no_end c more is = let some = some_byte c in omega (arith, ap length is, length-append (escaped c) more)

pub no_backslash : (c : ℕ) (more : List ℕ) → 92 ∷ [] ≡ escaped c ++ more → ⊥
no_backslash c more is = by (spelling c)
  where
    by : Spelling c → ⊥
    by (short e coded means spelled) = not_empty e more (sym (same_tails 92 92 [] (e ∷ more) (is ∙ ap (λ z. z ++ more) spelled)))
    by (plain spelled p q u v) = q (first_byte c 92 more [] (omega arith) (ap (λ z. z ++ more) (sym spelled) ∙ sym is))

pub end_piece : (text rest : List ℕ) → length text ≡ 0 → IsPiece text Wrong rest
end_piece [] rest none = (λ c more e. no_end c more e, λ more e. not_empty 34 more (sym e))
end_piece (x ∷ xs) rest none = absurd (omega arith)

pub raw_piece : (b : ℕ) (text more rest : List ℕ) → text ≡ encode b ++ more → (b ≡ 10) ⊎ (b ≡ 13) → IsPiece text Wrong rest
raw_piece b text more rest is raw = (
  λ c after e. no_raw b c more after raw (sym own ∙ e),
  λ after e. not_head b 34 more after (λ k. other raw k) (sym own ∙ e),
)
  where
    low : (b ≡ 10) ⊎ (b ≡ 13) → b < 128
    low (inl k) = omega arith
    low (inr k) = omega arith

    other : (b ≡ 10) ⊎ (b ≡ 13) → b ≡ 34 → ⊥
    other (inl k) e = omega arith
    other (inr k) e = omega arith

    own : text ≡ b ∷ more
    own = is ∙ ap (λ z. z ++ more) (encode_ascii b (low raw))

pub lone_piece : (text rest : List ℕ) → length text ≡ 0 → IsPiece (92 ∷ text) Wrong rest
lone_piece [] rest none = (λ c more e. no_backslash c more e, λ more e. not_head 92 34 [] more (λ k. omega (arith, k)) e)
lone_piece (x ∷ xs) rest none = absurd (omega arith)

pub code_piece : (code : ℕ) (text rest : List ℕ) (r : Piece) → text ≡ encode code ++ rest → IsEscape code r → IsPiece (92 ∷ text) r rest
code_piece code text rest (Character c) is escape = by (spelling c)
  where
    by : Spelling c → 92 ∷ text ≡ escaped c ++ rest
    by (short e coded means spelled) =
        let same : e ≡ code = ap (λ z. get_or z 1 0) (sym spelled ∙ escape) in
        ap (λ z. 92 ∷ z) (is ∙ ap (λ z. z ++ rest) (encode_ascii code (let low = code_low e coded in omega arith))) ∙ ap (λ z. z ++ rest) (sym escape)
    by (plain spelled p q u v) = absurd (q (first_byte c 92 [] (code ∷ []) (omega arith) (append-nil (encode c) ∙ sym spelled ∙ escape)))
code_piece code text rest Quote is escape = absurd escape
code_piece code text rest Wrong is (a, (b, (f, g))) = (
  λ c more e. no_piece code c rest more (no_code code a b f g) (ap (λ z. 92 ∷ z) (sym is) ∙ e),
  λ more e. not_head 92 34 text more (λ k. omega (arith, k)) e,
)

pub shorter : (c : ℕ) (old new : List ℕ) → old ≡ escaped c ++ new → length new < length old
shorter c old new is = let some = some_byte c in omega (arith, ap length is, length-append (escaped c) new)

pub piece_more : (text lex longer old new : List ℕ) (c : ℕ) → text ≡ flat_map escaped_byte lex ++ old → old ≡ escaped c ++ new → longer ≡ lex ++ encode c → text ≡ flat_map escaped_byte longer ++ new
piece_more text lex longer old new c is piece long =
    is ∙ ap (λ z. flat_map escaped_byte lex ++ z) (piece ∙ ap (λ z. z ++ new) (escaped_character c))
    ∙ sym (append_assoc (flat_map escaped_byte lex) (flat_map escaped_byte (encode c)) new)
    ∙ ap (λ z. z ++ new) (sym (flat_map-append escaped_byte lex (encode c)) ∙ ap (flat_map escaped_byte) (sym long))

lexical : (bytes : List ℕ) → IsUtf8 bytes → flat_map escaped_byte bytes ≡ flat_map escaped (chars bytes)
lexical bytes utf8 = ap (flat_map escaped_byte) (sym (encodes-chars bytes utf8)) ∙ sym (escaped_bytes (chars bytes))

pub quoted_ends : (text bytes lex old rest : List ℕ) → IsUtf8 bytes → text ≡ flat_map escaped_byte bytes ++ old → old ≡ 34 ∷ rest → lex ≡ chars bytes →
    (text ≡ flat_map escaped lex ++ 34 ∷ rest) × IsUnicode lex
quoted_ends text bytes lex old rest utf8 is end made = (
  is ∙ ap (λ z. flat_map escaped_byte bytes ++ z) end ∙ ap (λ z. z ++ 34 ∷ rest) (lexical bytes utf8 ∙ ap (flat_map escaped) (sym made)),
  subst IsUnicode (sym made) (scalars-chars bytes utf8),
)

pub quoted_stops : (text bytes old : List ℕ) → IsUtf8 bytes → text ≡ flat_map escaped_byte bytes ++ old → IsPiece old Wrong [] → IsQuoted text None
quoted_stops text bytes old utf8 is wrong = λ lex rest e.
    let k = lex_rest (chars bytes) lex old rest (ap (λ z. z ++ old) (sym (lexical bytes utf8)) ∙ sym is ∙ e) in
    by k.0 rest k.1
  where
    by : (es rest : List ℕ) → old ≡ flat_map escaped es ++ 34 ∷ rest → ⊥
    by [] rest e = wrong.1 rest e
    by (c ∷ es) rest e = wrong.0 c (flat_map escaped es ++ 34 ∷ rest) (e ∙ append_assoc (escaped c) (flat_map escaped es) (34 ∷ rest))

-- ---- what follows the closing quote

abbrev tagged_parts : List ℕ → List ℕ → LiteralParts
tagged_parts lex t = record { lex = lex; datatype = rdf_lang_string; lang = Some t }

abbrev untagged_parts : List ℕ → List ℕ → LiteralParts
untagged_parts lex d = record { lex = lex; datatype = d; lang = None }

lowered_char : (c : ℕ) → not (nat_le 65 c && nat_le c 90) ≡ true → to_ascii_lowercase c ≡ c
lowered_char c h = grind (arith, nat_tests)

lowered_same : (t : List ℕ) → is_lowered t ≡ true → map to_ascii_lowercase t ≡ t
lowered_same [] h = refl
lowered_same (c ∷ cs) h =
    let k = and_parts (not (nat_le 65 c && nat_le c 90)) (is_lowered cs) h in
    let a = lowered_char c k.0 in
    let b = lowered_same cs k.1 in
    λ i. a i ∷ b i

pub tag_read : (lex text : List ℕ) (l : LiteralParts) → IsUnicode lex → IsUtf8 text → is_lowered (chars text) ≡ true →
    l ≡ tagged_parts lex (map to_ascii_lowercase (chars text)) → IsRead suffix_of (IsLiteralOf lex) (64 ∷ text) (Some l)
tag_read lex text l unicode utf8 low is = subst (λ l. IsRead suffix_of (IsLiteralOf lex) (64 ∷ text) (Some l)) (sym (is ∙ ap (tagged_parts lex) same)) (
  ap (λ z. 64 ∷ z) (sym (encodes-chars text utf8)),
  (
    record {
      parts = record { tagged = (λ some. refl, λ e. refl); lowered = low };
      lex = unicode;
      datatype = refl;
      lang = scalars-chars text utf8;
    },
    refl,
  ),
)
  where
    same : map to_ascii_lowercase (chars text) ≡ chars text
    same = lowered_same (chars text) low

pub tag_missed : (lex text : List ℕ) → is_lowered (chars text) ≡ false → IsRead suffix_of (IsLiteralOf lex) (64 ∷ text) None
tag_missed lex text high = λ l good e. by l good.0 (suffix l good.0.parts) e
  where
    by : (l : LiteralParts) → IsLiteralValue l → Suffix l → 64 ∷ text ≡ suffix_of l → ⊥
    by l good (tag t is of spelled) e =
        let same : text ≡ encode_utf8_all t = same_tails 64 64 text (encode_utf8_all t) (e ∙ spelled) in
        let its : chars text ≡ t = ap chars same ∙ chars-encodes t (subst IsUnicodeIfAny is good.lang) in
        true≢false (sym (subst IsLowered is good.parts.lowered) ∙ ap is_lowered (sym its) ∙ high)
    by l good (string is of spelled) e = not_empty 64 text (e ∙ spelled)
    by l good (typed is other spelled) e = not_head 64 94 text _ (λ k. omega (arith, k)) (e ∙ spelled)

-- the datatype that is read is no other
datatype_is : (lex text iri : List ℕ) (l : LiteralParts) → text ≡ iri_text iri → IsLiteralOf lex l → 94 ∷ (94 ∷ text) ≡ suffix_of l → (l.lang ≡ None) ×
    ((l.datatype ≡ iri) × (same_text l.datatype xsd_string ≡ false))
datatype_is lex text iri l is good e = by (suffix l good.0.parts)
  where
    by : Suffix l → (l.lang ≡ None) × ((l.datatype ≡ iri) × (same_text l.datatype xsd_string ≡ false))
    by (tag t some of spelled) = absurd (not_head 94 64 (94 ∷ text) _ (λ k. omega (arith, k)) (e ∙ spelled))
    by (string none of spelled) = absurd (not_empty 94 (94 ∷ text) (e ∙ spelled))
    by (typed none other spelled) =
        let same : text ≡ iri_text l.datatype = same_tails 94 94 _ _ (same_tails 94 94 _ _ (e ∙ spelled)) in
        (none, (iri_once l.datatype iri (sym same ∙ is), other))

string_encodes : encode_utf8_all xsd_string ≡ xsd_string
string_encodes = encodes-IsAscii xsd_string (ascii_codes xsd_string refl)

pub type_read : (lex whole text iri datatype : List ℕ) (r : Option LiteralParts) → IsUnicode lex → text ≡ codes "<" ++ (iri ++ codes ">") →
    pointwise nat_eq iri xsd_string ≡ false → IsOwned iri datatype → whole ≡ lex →
    IfSome r (λ l. l ≡ untagged_parts whole datatype) → (IsNone r ↔ (datatype ≡ rdf_lang_string)) → IsRead suffix_of (IsLiteralOf lex) (94 ∷ (94 ∷ text)) r
type_read lex whole text iri datatype None unicode between other owned same some none = λ l good e.
    let k = datatype_is lex text datatype l (between ∙ ap (λ z. 60 ∷ (z ++ 62 ∷ [])) owned.0) good e in
    let tagged : IsSome l.lang = good.0.parts.tagged.1 (k.1.0 ∙ none.0 refl) in
    true≢false (sym (subst IsSome k.0 tagged))
type_read lex whole text iri datatype (Some l) unicode between other owned same some none =
    subst (λ l. IsRead suffix_of (IsLiteralOf lex) (94 ∷ (94 ∷ text)) (Some l)) (sym (some ∙ ap (λ z. untagged_parts z datatype) same)) (
      ap (λ z. 94 ∷ (94 ∷ z)) (between ∙ ap (λ z. 60 ∷ (z ++ 62 ∷ [])) owned.0) ∙ sym (cond-false _ _ _ differs),
      (
        record {
          parts = record { tagged = (λ is. absurd (true≢false (sym is)), λ e. absurd (true≢false (none.1 e))); lowered = tt };
          lex = unicode;
          datatype = owned.1;
          lang = tt;
        },
        refl,
      ),
    )
  where
    differs : same_text datatype xsd_string ≡ false
    differs = ap (λ z. pointwise nat_eq z (encode_utf8_all xsd_string)) (sym owned.0) ∙ ap (λ z. pointwise nat_eq iri z) string_encodes ∙ other

pub suffix_missed : (lex text : List ℕ) → length text ≢ 0 → ((rest : List ℕ) → ¬ (text ≡ encode 64 ++ rest)) →
    ((rest : List ℕ) → ¬ (text ≡ codes "^^" ++ rest)) → IsRead suffix_of (IsLiteralOf lex) text None
suffix_missed lex text some untagged untyped = λ l good e. by l (suffix l good.0.parts) e
  where
    by : (l : LiteralParts) → Suffix l → text ≡ suffix_of l → ⊥
    by l (tag t is of spelled) e = untagged (encode_utf8_all t) (e ∙ spelled ∙ ap (λ z. z ++ encode_utf8_all t) (sym (encode_ascii 64 (omega arith))))
    by l (string is of spelled) e = some (ap length (e ∙ spelled))
    by l (typed is other spelled) e = untyped (iri_text l.datatype) (e ∙ spelled)

-- ---- literals

pub literal_read : (text quoted lex end : List ℕ) (r : Option LiteralParts) → text ≡ 34 ∷ quoted → quoted ≡ flat_map escaped lex ++ 34 ∷ end →
    IsRead suffix_of (IsLiteralOf lex) end r → IsRead literal_text IsLiteralValue text r
literal_read text quoted lex end None front is none = λ l good e.
    let k = lex_once lex l.lex end (suffix_of l) (sym is ∙ same_tails 34 34 quoted (flat_map escaped l.lex ++ 34 ∷ suffix_of l) (sym front ∙ e)) in
    none l (good, sym k.0) k.1
literal_read text quoted lex end (Some l) front is (suffixed, (good, same)) = (
  front
      ∙ ap (λ z. 34 ∷ z) (is ∙ ap (λ z. flat_map escaped z ++ 34 ∷ end) (sym same) ∙ ap (λ z. flat_map escaped l.lex ++ 34 ∷ z) suffixed),
  good,
)

pub no_literal : (text : List ℕ) → ((rest : List ℕ) → ¬ (text ≡ encode 34 ++ rest)) → IsRead literal_text IsLiteralValue text None
no_literal text none = λ l good e.
    let rest = flat_map escaped l.lex ++ 34 ∷ suffix_of l in
    none rest (e ∙ ap (λ z. z ++ rest) (sym (encode_ascii 34 (omega arith))))

pub literal_result : {E : Type 0} (text : List ℕ) (o : Option (Bor (List ℕ))) (quoted : Bor (List ℕ)) (q : Option (List ℕ ×
    Bor (List ℕ))) (lex : List ℕ) (end : Bor (List ℕ)) (r : Result (Option LiteralParts) E) →
    MatchOption o (FindsCharPrefix 34 text None) (λ x. (n : ℕ) × FindsCharPrefix 34 text (Some n) × (x.now ≡ drop n text) × (length x.now + n ≡ length text)) → o ≡ Some quoted →
    IsQuoted quoted.now q → q ≡ Some (lex, end) → IfOk r (IsRead suffix_of (IsLiteralOf lex) end.now) → IfOk r (IsRead literal_text IsLiteralValue text)
literal_result text o quoted q lex end (Err e) h is inner split read = tt
literal_result text o quoted q lex end (Ok r) h is inner split read =
    let front : text ≡ 34 ∷ quoted.now = subst (λ o. MatchOption o ((rest : List ℕ) → text ≢ 34 ∷ rest) (λ x. text ≡ 34 ∷ x.now)) is (strip_prefix_char 34 text o h (lit< tt)) in
    literal_read text quoted.now lex end.now r front (subst (IsQuoted quoted.now) split inner).0 read

-- ---- terms

pub iri_term : (text : List ℕ) (r : Option (List ℕ)) → get_or text 0 0 ≡ 60 → IsRead iri_text IsUnicode text r → IsRead term_text IsWholeTerm text (option_map (λ i. Iri i) r)
iri_term text (Some iri) front (is, good) = (is, (tt, good))
iri_term text None front none = by
  where
    by : (t : Term) → IsWholeTerm t → text ≡ term_text t → ⊥
    by (Iri iri) good e = none iri good.1 e
    by (Blank n) good e = omega (arith, front, ap (λ z. get_or z 0 0) e)
    by (Lit l) good e = omega (arith, front, ap (λ z. get_or z 0 0) e)
