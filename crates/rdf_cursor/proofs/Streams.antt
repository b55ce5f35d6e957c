-- What lies ahead of a place is the tokens of the text from there on.
use Rattle.std.proofs.Common.{◌≡◌, ℕ, zero, suc, ◌+◌, ◌≤◌, ◌<◌, List, [], ◌∷◌, length, refl, sym, ap, subst, ◌∙◌, arith}
use Rattle.std.specs.Str.{IsUtf8, IsCharBoundary}
use Rattle.std.proofs.lemmas.Str.{IsCharBoundary-start, IsCharBoundary-end}
use Rattle.rdf_cursor.specs.Ahead.{Ahead, finished, token, prepend}
use Rattle.rdf_lex.specs.declared.kinds.Kind.{Kind}
use Rattle.rdf_lex.specs.declared.kinds.Mode.{Mode}
use Rattle.rdf_lex.specs.declared.lexed.Lexed.{Lexed}
use Rattle.rdf_lex.specs.declared.lexed.Lexed.TheVariants as lexed
use Rattle.rdf_lex.specs.Scan.{Next, at_end, at_bad, at_token, next_of, seen}
use Rattle.rdf_lex.specs.Tokens.{Spelled, IsFirst, IsSkipped, Between, here, onward, Tokens, Lexes}
use Rattle.rdf_lex.proofs.Nexts.{is_next}
use Rattle.rdf_lex.proofs.Single.{lexed_one, on_behind, one_first}
use Rattle.rdf_cursor.specs.Streams.{stream_on, stream_within, stream_from}
use Rattle.rdf_cursor.specs.Lent.{ahead_of, behind_place}

-- what comes next, by the token that comes first
pub first_next : (m : Mode) (source : List ℕ) (at : ℕ) (k : Kind) (text : List ℕ) (place : ℕ) → IsUtf8 source → IsCharBoundary source at →
    IsFirst m source at k text place → at_token k text place ≡ next_of m source at
first_next m source at k text place u b f = lexed_one m source at (lexed.Token (record { kind = k; text = record { ref_ptr = (0, 0); now = text }; at = place })) u b f

pub end_next : (m : Mode) (source : List ℕ) (at : ℕ) → IsUtf8 source → IsCharBoundary source at → IsSkipped m source at (length source) → at_end ≡ next_of m source at
end_next m source at u b s = lexed_one m source at lexed.End u b s

-- a text is lexed from a place on
module _ (m : Mode) (source : List ℕ) (u : IsUtf8 source) where
  token_on : (at : ℕ) (k : Kind) (text : List ℕ) (place : ℕ) → IsCharBoundary source at → next_of m source at ≡ at_token k text place
      → IsFirst m source at k text place × (at < place + length text) × IsCharBoundary source (place + length text)
  token_on at k text place b e = let f : IsFirst m source at k text place = is_next m source at (at_token k text place) u b (sym e) in (f, (on_behind m source at k text place f).0, f.cut)

  same_on : (n l at : ℕ) (x : Next) → IsCharBoundary source at → next_of m source at ≡ x → ((b : ℕ) → at < b → IsCharBoundary source b → stream_within n m source b ≡ stream_within l m source b)
      → stream_on (stream_within n m source) x ≡ stream_on (stream_within l m source) x
  same_on n l at at_end b e ih = refl
  same_on n l at (at_bad p) b e ih = refl
  same_on n l at (at_token k text p) b e ih = let o = token_on at k text p b e in ap (token (record { kind = k; text = text })) (ih (p + length text) o.1 o.2)

  enough : (n l at : ℕ) → length source < n + at → length source < l + at → IsCharBoundary source at → stream_within n m source at ≡ stream_within l m source at
  enough zero l at a b c = let le : at ≤ length source = c.0 in absurd (omega arith)
  enough (suc n) zero at a b c = let le : at ≤ length source = c.0 in absurd (omega arith)
  enough (suc n) (suc l) at a b c = same_on n l at (next_of m source at) c refl (λ d lt cut. enough n l d (omega arith) (omega arith) cut)

  -- what lies ahead is what comes next and what lies ahead behind it
  pub stream_step : (at : ℕ) → IsCharBoundary source at → stream_from m source at ≡ stream_on (stream_from m source) (next_of m source at)
  unfolding stream_from
  stream_step at b = same_on (length source) (suc (length source)) at (next_of m source at) b refl (λ d lt cut. enough (length source) (suc (length source)) d (omega arith) (omega arith) cut)

  pub stream_next : (at : ℕ) (x : Next) → IsCharBoundary source at → x ≡ next_of m source at → stream_from m source at ≡ stream_on (stream_from m source) x
  stream_next at x b e = stream_step at b ∙ ap (stream_on (stream_from m source)) (sym e)

  -- by what a cursor keeps
  pub stream_lexed : (at : ℕ) (r : Lexed) → IsCharBoundary source at → seen r ≡ next_of m source at → stream_from m source at ≡ ahead_of m source r
  stream_lexed at (lexed.Token t) b e = stream_next at (at_token t.kind t.text.now t.at) b e
  stream_lexed at lexed.End b e = stream_next at at_end b e
  stream_lexed at (lexed.Bad p) b e = stream_next at (at_bad p) b e

  -- behind some tokens
  pub cut_behind : (at to : ℕ) (ts : List Spelled) → IsCharBoundary source at → Between m source at ts to → IsCharBoundary source to
  cut_behind at to ts b here = b
  cut_behind at to ts b (onward {place = p} {text = text} {ts = us} f rest) = cut_behind (p + length text) to us f.cut rest

  pub stream_between : (at to : ℕ) (ts : List Spelled) → IsCharBoundary source at → Between m source at ts to → stream_from m source at ≡ prepend ts (stream_from m source to)
  stream_between at to ts b here = refl
  stream_between at to ts b (onward {place = p} {k = k} {text = text} {ts = us} f rest) =
      stream_next at (at_token k text p) b (first_next m source at k text p u b f)
      ∙ ap (token (record { kind = k; text = text })) (stream_between (p + length text) to us f.cut rest)

  -- the same token
  same_first : (t : Spelled) (x y : Ahead Spelled) (k : Kind) (text : List ℕ) → token t x ≡ token (record { kind = k; text = text }) y → (record { kind = k; text = text } ≡ t) × (y ≡ x)
  same_first t x y k text e = (cc, cc)

  -- some tokens ahead are tokens of the text
  pub record Found (at : ℕ) (ts : List Spelled) (rest : Ahead Spelled) : Type 0 where
    pub to : ℕ
    pub passed : Between m source at ts to
    pub left : stream_from m source to ≡ rest

  one_found : (at : ℕ) (t : Spelled) (ts : List Spelled) (rest : Ahead Spelled) (k : Kind) (text : List ℕ) (p : ℕ) → record { kind = k; text = text } ≡ t → IsFirst m source at k text p
      → Found (p + length text) ts rest → Found at (t ∷ ts) rest
  one_found at t ts rest k text p e f g = subst (λ (v : Spelled). Found at (v ∷ ts) rest) e (record { to = g.to; passed = onward f g.passed; left = g.left })

  found_on : (at : ℕ) (t : Spelled) (ts : List Spelled) (rest : Ahead Spelled) (x : Next) → IsCharBoundary source at → next_of m source at ≡ x →
      stream_on (stream_from m source) x ≡ token t (prepend ts rest)
      → ((b : ℕ) → IsCharBoundary source b → stream_from m source b ≡ prepend ts rest → Found b ts rest) → Found at (t ∷ ts) rest
  found_on at t ts rest at_end b e is ih = absurd cc
  found_on at t ts rest (at_bad p) b e is ih = absurd cc
  found_on at t ts rest (at_token k text p) b e is ih =
      let o = token_on at k text p b e in
      let s = same_first t (prepend ts rest) (stream_from m source (p + length text)) k text (sym is) in
      one_found at t ts rest k text p s.0 o.0 (ih (p + length text) o.2 s.1)

  pub found : (at : ℕ) (ts : List Spelled) (rest : Ahead Spelled) → IsCharBoundary source at → stream_from m source at ≡ prepend ts rest → Found at ts rest
  found at [] rest b e = record { to = at; passed = here; left = e }
  found at (t ∷ ts) rest b e = found_on at t ts rest (next_of m source at) b refl (sym (stream_step at b) ∙ e) (λ c cut is. found c ts rest cut is)

  -- nothing is ahead at the end alone
  ended_on : (at : ℕ) (x : Next) → IsCharBoundary source at → next_of m source at ≡ x → stream_on (stream_from m source) x ≡ finished → IsSkipped m source at (length source)
  ended_on at at_end b e is = is_next m source at at_end u b (sym e)
  ended_on at (at_bad p) b e is = absurd cc
  ended_on at (at_token k text p) b e is = absurd cc

  pub ended : (at : ℕ) → IsCharBoundary source at → stream_from m source at ≡ finished → IsSkipped m source at (length source)
  ended at b e = ended_on at (next_of m source at) b refl (sym (stream_step at b) ∙ e)

  pub start : IsCharBoundary source 0
  start = IsCharBoundary-start source u

  pub to_tokens : (ts : List Spelled) → stream_from m source 0 ≡ prepend ts finished → Tokens m source ts
  to_tokens ts e = let f = found 0 ts finished start e in (f.to, f.passed, ended f.to (cut_behind 0 f.to ts start f.passed) f.left)

  pub from_tokens : (ts : List Spelled) → Tokens m source ts → stream_from m source 0 ≡ prepend ts finished
  from_tokens ts (to, passed, skipped) =
      stream_between 0 to ts start passed ∙ ap (prepend ts) (stream_next to at_end (cut_behind 0 to ts start passed) (end_next m source to u (cut_behind 0 to ts start passed) skipped))

  tails : (t v : Spelled) (ts vs : List Spelled) → t ∷ ts ≡ v ∷ vs → ts ≡ vs
  tails t v ts vs e = cc

  -- one place behind some tokens
  between_ends : (at a b : ℕ) (ts us : List Spelled) → ts ≡ us → Between m source at ts a → Between m source at us b → a ≡ b
  between_ends at a b ts us e here here = refl
  between_ends at a b ts us e here (onward f rest) = absurd cc
  between_ends at a b ts us e (onward f rest) here = absurd cc
  between_ends at a b ts us e (onward {place = p} {k = j} {text = xs} {ts = vs} f more) (onward {place = q} {k = k} {text = ys} {ts = ws} g rest) =
      let o = one_first m source at j k xs ys p q u f g in
      let same : p + length xs ≡ q + length ys = ap (λ (z : ℕ). z + length xs) o.2 ∙ ap (λ (z : List ℕ). q + length z) o.1 in
      between_ends (q + length ys) a b vs ws (tails (record { kind = j; text = xs }) (record { kind = k; text = ys }) vs ws e) (subst (λ (z : ℕ). Between m source z vs a) same more) rest

  pub one_between : (at a b : ℕ) (ts : List Spelled) → Between m source at ts a → Between m source at ts b → a ≡ b
  one_between at a b ts p q = between_ends at a b ts ts refl p q

  -- where a text may be cut behind what comes next
  pub cut_lexed : (at : ℕ) (r : Lexed) → Lexes m source at r → IsCharBoundary source (behind_place source r)
  cut_lexed at (lexed.Token t) h = h.cut
  cut_lexed at lexed.End h = IsCharBoundary-end source
  cut_lexed at (lexed.Bad p) h = h.0.cut
