-- What comes next in a text is one thing.
use Rattle.std.proofs.Common.{◌≡◌, ℕ, ◌+◌, ◌-◌, ◌≤◌, ◌<◌, Bool, true, false, List, [], ◌∷◌, ◌++◌, length, take, drop, length-drop, encode_utf8_all, Option, Some, None, refl, sym, ap, subst, ◌∙◌, arith}
use Rattle.std.specs.Prelude.{nat_eq, ◌&&◌}
use Rattle.std.proofs.Common.{cond}
use Rattle.std.proofs.lemmas.Bool.{eqb-true}
use Rattle.std.specs.Str.{chars, IsUtf8, IsCharBoundary, NonePass}
use Rattle.std.proofs.lemmas.Str.{encodes-chars, IsUtf8-drop, IsUtf8-between, chars-nil}
use Rattle.std.proofs.lemmas.List.{nil_from_length}
use Rattle.rdf_lex.specs.declared.kinds.Kind.{Kind}
use Rattle.rdf_lex.specs.declared.kinds.Mode.{Mode}
use Rattle.rdf_lex.specs.declared.kinds.Mode.TheVariants.{NTriples, Turtle, Map, Schema}
use Rattle.rdf_lex.specs.declared.lexed.Lexed.{Lexed}
use Rattle.rdf_lex.specs.declared.lexed.Lexed.TheVariants as lexed
use Rattle.rdf_lex.specs.Phrases.{Spells}
use Rattle.rdf_lex.specs.Scan.{Next, at_end, at_bad, at_token, next_of, seen}
use Rattle.rdf_lex.specs.Spelling.{Spelling}
use Rattle.rdf_lex.specs.Tokens.{Blanks, ends, stops, white, comment, block, has_blocks, behind_block, behind_open, behind_comment, is_white, ends_line, IsLineEnd, IsLongest, BeginsNone, IsSkipped, IsFirst, Lexes, Spelled, Between, here, onward, Tokens}
use Rattle.rdf_lex.proofs.Languages.{heads, and_true}
use Rattle.rdf_lex.proofs.Nexts.{IsNext, is_next}
use Rattle.rdf_lex.proofs.Recognised.{to_kind}

apart : (b : Bool) → b ≡ true → b ≡ false → ⊥
apart b e f = cc

some_is : (j k : Kind) → Path (Option Kind) (Some j) (Some k) → j ≡ k
some_is j k e = cc

pub kinds_apart : (m : Mode) (j k : Kind) (text : List ℕ) → Spells (Spelling m j) text → Spells (Spelling m k) text → j ≡ k
kinds_apart m j k text h i = some_is j k (sym (to_kind m j text h) ∙ to_kind m k text i)

-- white space and comments
hash_not_white : (m : Mode) → is_white m 35 ≡ false
hash_not_white NTriples = refl
hash_not_white Turtle = refl
hash_not_white Map = refl
hash_not_white Schema = refl

no_cons : (c : ℕ) (cs : List ℕ) → Path (List ℕ) [] (c ∷ cs) → ⊥
no_cons c cs e = cc

line_goes : (xs ys : List ℕ) (c : ℕ) (cs : List ℕ) → xs ≡ (c ∷ cs) ++ ys → IsLineEnd xs → ends_line c ≡ true
line_goes [] ys c cs e h = absurd (no_cons c (cs ++ ys) e)
line_goes (x ∷ xs) ys c cs e h = let p = heads x c xs (cs ++ ys) e in ap ends_line (sym p.0) ∙ h

one_note : (note behind other after : List ℕ) → note ++ behind ≡ other ++ after → NonePass ends_line note → IsLineEnd behind → NonePass ends_line other → IsLineEnd after → behind ≡ after
one_note [] behind [] after e h l k n = e
one_note [] behind (c ∷ other) after e h l (k, ks) n = absurd (apart (ends_line c) (line_goes behind after c other e l) k)
one_note (c ∷ note) behind [] after e (h, hs) l k n = absurd (apart (ends_line c) (line_goes after behind c note (sym e) n) h)
one_note (c ∷ note) behind (d ∷ other) after e (h, hs) l (k, ks) n = one_note note behind other after (heads c d (note ++ behind) (other ++ after) e).1 hs l ks n

-- where a comment from `/*` to `*/` begins, a slash stands, so no other white space
slash_opens : (cs behind : List ℕ) → behind_open cs ≡ Some behind → (ds : List ℕ) × (cs ≡ 47 ∷ ds)
slash_opens [] behind e = absurd cc
slash_opens (c ∷ []) behind e = absurd cc
slash_opens (c ∷ d ∷ cs) behind e = (d ∷ cs, ap (λ (x : ℕ). x ∷ d ∷ cs) (eqb-true c 47 (and_true (nat_eq c 47) (nat_eq d 42) (by (nat_eq c 47 && nat_eq d 42) e)).0))
  where
    by : (b : Bool) → cond b (behind_block false cs) None ≡ Some behind → b ≡ true
    by true e = refl
    by false e = absurd cc

slash_begins : (m : Mode) (cs behind : List ℕ) → behind_comment m cs ≡ Some behind → (ds : List ℕ) × (cs ≡ 47 ∷ ds)
slash_begins m cs behind e = by (has_blocks m) e
  where
    by : (b : Bool) → cond b (behind_open cs) None ≡ Some behind → (ds : List ℕ) × (cs ≡ 47 ∷ ds)
    by true e = slash_opens cs behind e
    by false e = absurd cc

slash_not_white : (m : Mode) → is_white m 47 ≡ false
slash_not_white NTriples = refl
slash_not_white Turtle = refl
slash_not_white Map = refl
slash_not_white Schema = refl

slash_head : (m : Mode) (c : ℕ) (cs ds behind : List ℕ) → c ∷ cs ≡ ds → behind_comment m ds ≡ Some behind → c ≡ 47
slash_head m c cs ds behind e h = let (es, f) = slash_begins m ds behind h in (heads c 47 cs es (e ∙ f)).0

no_slash : (m : Mode) (ds behind : List ℕ) → Path (List ℕ) [] ds → behind_comment m ds ≡ Some behind → ⊥
no_slash m ds behind e h = let (es, f) = slash_begins m ds behind h in no_cons 47 es (e ∙ f)

white_slash : (m : Mode) (c : ℕ) (cs ds behind : List ℕ) → c ∷ cs ≡ ds → is_white m c ≡ true → behind_comment m ds ≡ Some behind → ⊥
white_slash m c cs ds behind e w h = apart (is_white m c) w (ap (is_white m) (slash_head m c cs ds behind e h) ∙ slash_not_white m)

hash_slash : (m : Mode) (cs ds behind : List ℕ) → 35 ∷ cs ≡ ds → behind_comment m ds ≡ Some behind → ⊥
hash_slash m cs ds behind e h = let f : Path ℕ 35 47 = slash_head m 35 cs ds behind e h in omega arith

none_some_list : (o : Option (List ℕ)) (behind : List ℕ) → o ≡ None → o ≡ Some behind → ⊥
none_some_list o behind e f = cc

some_list : (xs ys : List ℕ) → Path (Option (List ℕ)) (Some xs) (Some ys) → xs ≡ ys
some_list xs ys e = cc

one_blanks : (m : Mode) (cs ds r s : List ℕ) → cs ≡ ds → Blanks m cs r → Blanks m ds s → r ≡ s
one_blanks m cs ds r s e ends ends = refl
one_blanks m cs ds r s e ends (stops {c = c} {cs = ys} p q o) = absurd (no_cons c ys e)
one_blanks m cs ds r s e ends (white {c = c} {cs = ys} p k) = absurd (no_cons c ys e)
one_blanks m cs ds r s e ends (comment {cs = ys} note behind p n l k) = absurd (no_cons 35 ys e)
one_blanks m cs ds r s e ends (block behind p k) = absurd (no_slash m ds behind e p)
one_blanks m cs ds r s e (stops {c = c} {cs = xs} p q o) ends = absurd (no_cons c xs (sym e))
one_blanks m cs ds r s e (stops p q o) (stops f g n) = e
one_blanks m cs ds r s e (stops {c = c} {cs = xs} p q o) (white {c = d} {cs = ys} f k) = absurd (apart (is_white m c) (ap (is_white m) (heads c d xs ys e).0 ∙ f) p)
one_blanks m cs ds r s e (stops {c = c} {cs = xs} p q o) (comment {cs = ys} note behind f n l k) = absurd (apart (nat_eq c 35) (ap (λ (x : ℕ). nat_eq x 35) (heads c 35 xs ys e).0) q)
one_blanks m cs ds r s e (stops {c = c} {cs = xs} p q o) (block behind f k) = absurd (none_some_list (behind_comment m ds) behind (ap (behind_comment m) (sym e) ∙ o) f)
one_blanks m cs ds r s e (white {c = c} {cs = xs} p h) ends = absurd (no_cons c xs (sym e))
one_blanks m cs ds r s e (white {c = c} {cs = xs} p h) (stops {c = d} {cs = ys} f g o) = absurd (apart (is_white m d) (ap (is_white m) (sym (heads c d xs ys e).0) ∙ p) f)
one_blanks m cs ds r s e (white {c = c} {cs = xs} p h) (white {c = d} {cs = ys} f k) = one_blanks m xs ys r s (heads c d xs ys e).1 h k
one_blanks m cs ds r s e (white {c = c} {cs = xs} p h) (comment {cs = ys} note behind f n l k) =
    absurd (apart (is_white m c) p (ap (is_white m) (heads c 35 xs ys e).0 ∙ hash_not_white m))
one_blanks m cs ds r s e (white {c = c} {cs = xs} p h) (block behind f k) = absurd (white_slash m c xs ds behind e p f)
one_blanks m cs ds r s e (comment {cs = xs} note behind f n l h) ends = absurd (no_cons 35 xs (sym e))
one_blanks m cs ds r s e (comment {cs = xs} note behind f n l h) (stops {c = d} {cs = ys} p q o) = absurd (apart (nat_eq d 35) (ap (λ (x : ℕ). nat_eq x 35) (sym (heads 35 d xs ys e).0)) q)
one_blanks m cs ds r s e (comment {cs = xs} note behind f n l h) (white {c = d} {cs = ys} p k) =
    absurd (apart (is_white m d) p (ap (is_white m) (sym (heads 35 d xs ys e).0) ∙ hash_not_white m))
one_blanks m cs ds r s e (comment {cs = xs} note behind f n l h) (comment {cs = ys} other after g o i k) =
    one_blanks m behind after r s (one_note note behind other after (sym f ∙ (heads 35 35 xs ys e).1 ∙ g) n l o i) h k
one_blanks m cs ds r s e (comment {cs = xs} note behind f n l h) (block after p k) = absurd (hash_slash m xs ds after e p)
one_blanks m cs ds r s e (block behind f h) ends = absurd (no_slash m cs behind (sym e) f)
one_blanks m cs ds r s e (block behind f h) (stops p q o) = absurd (none_some_list (behind_comment m ds) behind o (ap (behind_comment m) (sym e) ∙ f))
one_blanks m cs ds r s e (block behind f h) (white {c = d} {cs = ys} p k) = absurd (white_slash m d ys cs behind (sym e) p f)
one_blanks m cs ds r s e (block behind f h) (comment {cs = ys} note after p n l k) = absurd (hash_slash m ys cs behind (sym e) f)
one_blanks m cs ds r s e (block behind f h) (block after p k) = one_blanks m behind after r s (some_list behind after (sym f ∙ ap (behind_comment m) e ∙ p)) h k

-- a place by what is left from there on
same_place : (source : List ℕ) (a b : ℕ) → IsUtf8 source → IsCharBoundary source a → IsCharBoundary source b → chars (drop a source) ≡ chars (drop b source) → a ≡ b
same_place source a b u p q e =
    let same : drop a source ≡ drop b source = sym (encodes-chars (drop a source) (IsUtf8-drop source a u p)) ∙ ap encode_utf8_all e ∙ encodes-chars (drop b source) (IsUtf8-drop source b u q) in
    let lengths : length (drop a source) ≡ length (drop b source) = ap length same in
    let f = length-drop a source in
    let g = length-drop b source in
    let h : a ≤ length source = p.0 in
    let i : b ≤ length source = q.0 in
    omega arith

one_skipped : (m : Mode) (source : List ℕ) (at a b : ℕ) → IsUtf8 source → IsSkipped m source at a → IsSkipped m source at b → a ≡ b
one_skipped m source at a b u p q =
    same_place source a b u p.cut q.cut (one_blanks m (chars (drop at source)) (chars (drop at source)) (chars (drop a source)) (chars (drop b source)) refl p.blanks q.blanks)

-- texts at the same place of the same length
same_front : (xs ys vs bs : List ℕ) → xs ++ vs ≡ ys ++ bs → length xs ≡ length ys → xs ≡ ys
same_front [] [] vs bs e l = refl
same_front [] (y ∷ ys) vs bs e l = absurd (omega arith)
same_front (x ∷ xs) [] vs bs e l = absurd (omega arith)
same_front (x ∷ xs) (y ∷ ys) vs bs e l =
    let h = heads x y (xs ++ vs) (ys ++ bs) e in
    let n : length xs ≡ length ys = omega arith in
    let t = same_front xs ys vs bs h.1 n in
    let f = h.0 in cc

one_longest : (m : Mode) (cs : List ℕ) (j k : Kind) (xs ys : List ℕ) → IsLongest m cs j xs → IsLongest m cs k ys → (xs ≡ ys) × (j ≡ k)
one_longest m cs j k xs ys a b =
    let le = b.longest j xs a.rest a.parts a.spelled in
    let ge = a.longest k ys b.rest b.parts b.spelled in
    let text : xs ≡ ys = same_front xs ys a.rest b.rest (sym a.parts ∙ b.parts) (omega arith) in
    (text, kinds_apart m j k ys (subst (λ (v : List ℕ). Spells (Spelling m j) v) text a.spelled) b.spelled)

text_utf8 : (m : Mode) (source : List ℕ) (at : ℕ) (k : Kind) (text : List ℕ) (place : ℕ) → IsUtf8 source → IsFirst m source at k text place → IsUtf8 text
text_utf8 m source at k text place u f =
    let n : place + length text - place ≡ length text = omega arith in
    subst IsUtf8 (ap (λ (i : ℕ). take i (drop place source)) n ∙ sym f.lent) (IsUtf8-between source place (place + length text) u (omega arith) f.skipped.cut f.cut)

same_text : (xs ys : List ℕ) → IsUtf8 xs → IsUtf8 ys → chars xs ≡ chars ys → xs ≡ ys
same_text xs ys u w e = sym (encodes-chars xs u) ∙ ap encode_utf8_all e ∙ encodes-chars ys w

token_same : (j k : Kind) (xs ys : List ℕ) (a b : ℕ) → j ≡ k → xs ≡ ys → a ≡ b → at_token j xs a ≡ at_token k ys b
token_same j k xs ys a b e f g = cc

pub one_first : (m : Mode) (source : List ℕ) (at : ℕ) (j k : Kind) (xs ys : List ℕ) (a b : ℕ) → IsUtf8 source → IsFirst m source at j xs a → IsFirst m source at k ys b → (j ≡ k) × (xs ≡ ys) × (a ≡ b)
one_first m source at j k xs ys a b u p q =
    let place = one_skipped m source at a b u p.skipped q.skipped in
    let l = one_longest m (chars (drop b source)) j k (chars xs) (chars ys) (subst (λ (i : ℕ). IsLongest m (chars (drop i source)) j (chars xs)) place p.longest) q.longest in
    (l.1, same_text xs ys (text_utf8 m source at j xs a u p) (text_utf8 m source at k ys b u q) l.0, place)

-- no kind's text is empty
none_empty : (m : Mode) (k : Kind) → ¬ Spells (Spelling m k) []
none_empty m k h = no_some k (to_kind m k [] h)
  where
    no_some : (k : Kind) → Path (Option Kind) None (Some k) → ⊥
    no_some k e = cc

nothing_left : (m : Mode) (k : Kind) (text rest : List ℕ) → Path (List ℕ) [] (text ++ rest) → ¬ Spells (Spelling m k) text
nothing_left m k [] rest e h = none_empty m k h
nothing_left m k (c ∷ cs) rest e h = no_cons c (cs ++ rest) e

no_bytes : (source : List ℕ) → chars (drop (length source) source) ≡ []
no_bytes source = let d = length-drop (length source) source in ap chars (nil_from_length (drop (length source) source) (omega arith)) ∙ chars-nil

no_first : (m : Mode) (source : List ℕ) (at : ℕ) (k : Kind) (text : List ℕ) (place : ℕ) → IsUtf8 source → IsFirst m source at k text place → ¬ IsSkipped m source at (length source)
no_first m source at k text place u f s =
    let e = one_skipped m source at place (length source) u f.skipped s in
    let l = f.longest in
    nothing_left m k (chars text) l.rest (sym (no_bytes source) ∙ ap (λ (i : ℕ). chars (drop i source)) (sym e) ∙ l.parts) l.spelled

-- the tokens of a text
tokens_same : (j k : Kind) (xs ys : List ℕ) (ts us : List Spelled) → j ≡ k → xs ≡ ys → ts ≡ us → Path (List Spelled) (record { kind = j; text = xs } ∷ ts) (record { kind = k; text = ys } ∷ us)
tokens_same j k xs ys ts us e f g = cc

one_between : (m : Mode) (source : List ℕ) (at a b : ℕ) (ts us : List Spelled) → IsUtf8 source → Between m source at ts a →
    IsSkipped m source a (length source) → Between m source at us b → IsSkipped m source b (length source) → ts ≡ us
one_between m source at a b ts us u here p here q = refl
one_between m source at a b ts us u here p (onward {place = i} {k = k} {text = text} f rest) q = absurd (no_first m source at k text i u f p)
one_between m source at a b ts us u (onward {place = i} {k = k} {text = text} f rest) p here q = absurd (no_first m source at k text i u f q)
one_between m source at a b ts us u (onward {place = i} {k = j} {text = xs} {ts = vs} f more) p (onward {place = n} {k = k} {text = ys} {ts = ws} g rest) q =
    let (e, t, l) = one_first m source at j k xs ys i n u f g in
    let same : i + length xs ≡ n + length ys = ap (λ (z : ℕ). z + length xs) l ∙ ap (λ (z : List ℕ). n + length z) t in
    tokens_same j k xs ys vs ws e t (one_between m source (n + length ys) a b vs ws u (subst (λ (z : ℕ). Between m source z vs a) same more) p rest q)

pub one_list : (m : Mode) (source : List ℕ) (ts us : List Spelled) → IsUtf8 source → Tokens m source ts → Tokens m source us → ts ≡ us
one_list m source ts us u (a, h, p) (b, k, q) = one_between m source 0 a b ts us u h p k q

-- what comes next
no_bad : (m : Mode) (source : List ℕ) (at : ℕ) (k : Kind) (text : List ℕ) (a b : ℕ) → IsUtf8 source → IsFirst m source at k text a → IsSkipped m source at b → ¬ BeginsNone m (chars (drop b source))
no_bad m source at k text a b u f s none =
    let e = one_skipped m source at a b u f.skipped s in
    let l = f.longest in
    none k (chars text) l.rest (ap (λ (i : ℕ). chars (drop i source)) (sym e) ∙ l.parts) l.spelled

no_end : (m : Mode) (source : List ℕ) (at b : ℕ) → IsUtf8 source → IsSkipped m source at (length source) → IsSkipped m source at b → ¬ (b < length source)
no_end m source at b u p q lt = let e = one_skipped m source at b (length source) u q p in omega arith

one_next : (m : Mode) (source : List ℕ) (at : ℕ) (x y : Next) → IsUtf8 source → IsNext m source at x → IsNext m source at y → x ≡ y
one_next m source at (at_token j xs a) (at_token k ys b) u p q = let (e, t, l) = one_first m source at j k xs ys a b u p q in token_same j k xs ys a b e t l
one_next m source at (at_token j xs a) at_end u p q = absurd (no_first m source at j xs a u p q)
one_next m source at (at_token j xs a) (at_bad b) u p (q, lt, none) = absurd (no_bad m source at j xs a b u p q none)
one_next m source at at_end (at_token k ys b) u p q = absurd (no_first m source at k ys b u q p)
one_next m source at at_end at_end u p q = refl
one_next m source at at_end (at_bad b) u p (q, lt, none) = absurd (no_end m source at b u p q lt)
one_next m source at (at_bad a) (at_token k ys b) u (p, lt, none) q = absurd (no_bad m source at k ys b a u q p none)
one_next m source at (at_bad a) at_end u (p, lt, none) q = absurd (no_end m source at a u q p lt)
one_next m source at (at_bad a) (at_bad b) u (p, lt, none) (q, lt2, none2) = ap at_bad (one_skipped m source at a b u p q)

lexes_one : (m : Mode) (source : List ℕ) (at : ℕ) (x : Next) → IsUtf8 source → IsCharBoundary source at → IsNext m source at x → x ≡ next_of m source at
lexes_one m source at x u b h = one_next m source at x (next_of m source at) u h (is_next m source at (next_of m source at) u b refl)

pub lexed_one : (m : Mode) (source : List ℕ) (at : ℕ) (r : Lexed) → IsUtf8 source → IsCharBoundary source at → Lexes m source at r → seen r ≡ next_of m source at
lexed_one m source at (lexed.Token t) u b h = lexes_one m source at (at_token t.kind t.text.now t.at) u b h
lexed_one m source at lexed.End u b h = lexes_one m source at at_end u b h
lexed_one m source at (lexed.Bad place) u b h = lexes_one m source at (at_bad place) u b h

-- a token is not empty
some_text : (m : Mode) (k : Kind) (text : List ℕ) → Spells (Spelling m k) (chars text) → 0 < length text
some_text m k [] h = absurd (none_empty m k (subst (λ (v : List ℕ). Spells (Spelling m k) v) chars-nil h))
some_text m k (b ∷ bs) h = omega arith

pub on_behind : (m : Mode) (source : List ℕ) (at : ℕ) (k : Kind) (text : List ℕ) (place : ℕ) → IsFirst m source at k text place → (at < place + length text) × (place + length text ≤ length source)
on_behind m source at k text place f =
    let some = some_text m k text f.longest.spelled in
    let on = f.skipped.onward in
    let end : place + length text ≤ length source = f.cut.0 in
    (omega arith, end)
