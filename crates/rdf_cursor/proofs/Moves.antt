-- What a cursor keeps, where it is made and where it goes on.
use Rattle.std.proofs.Common.{◌≡◌, ℕ, ◌+◌, List, [], ◌∷◌, ◌++◌, length, true, Some, refl, sym, ap, subst, ◌∙◌}
use Rattle.std.proofs.Math.Logic.{∥∥₁_elim, ∥∥₁_map}
use Rattle.std.proofs.Props.{props}
use Rattle.std.proofs.lemmas.Str.{IsUtf8-had}
use Rattle.std.specs.Str.{chars, IsUtf8, IsCharBoundary}
use Rattle.rdf_lex.specs.declared.kinds.Kind.{Kind}
use Rattle.rdf_lex.specs.declared.kinds.Mode.{Mode}
use Rattle.rdf_lex.specs.declared.machine.State.TheVariants.{Start}
use Rattle.rdf_lex.specs.declared.lexed.Lexed.{Lexed}
use Rattle.rdf_lex.specs.declared.lexed.Lexed.TheVariants as lexed
use Rattle.rdf_lex.specs.declared.lexed.Token.{Token}
use Rattle.rdf_lex.specs.Scan.{at_token, next_of, seen}
use Rattle.rdf_lex.specs.Tokens.{Spelled, IsFirst, Between, here, onward, Lexes}
use Rattle.rdf_lex.proofs.Nexts.{is_next}
use Rattle.rdf_lex.proofs.Recognised.{kind_from, to_kind, from_kind}
use Rattle.rdf_lex.proofs.Residuals.{is_kind, is_kind_some, some_is_kind}
use Rattle.rdf_cursor.specs.Streams.{stream_from}
use Rattle.rdf_cursor.specs.Lent.{spelled, ahead_of, behind_place, IsReached, Lends, behind_next}
use Rattle.rdf_cursor.proofs.Streams.{stream_lexed, cut_behind, cut_lexed, start}

-- one token more
between_more : (m : Mode) (source : List ℕ) (at to place : ℕ) (ts : List Spelled) (k : Kind) (text : List ℕ) → Between m source at ts to → IsFirst m source to k text place
    → Between m source at (ts ++ record { kind = k; text = text } ∷ []) (place + length text)
between_more m source at to place ts k text here f = onward f here
between_more m source at to place ts k text (onward {place = p} {text = xs} {ts = us} g rest) f = onward g (between_more m source (p + length xs) to place us k text rest f)

-- the token that is next comes first behind those before it
reached_first : (m : Mode) (source : List ℕ) (t : Token) → IsUtf8 source → (r : IsReached m source (lexed.Token t)) → IsFirst m source r.from t.kind t.text.now t.at
reached_first m source t u r = is_next m source r.from (at_token t.kind t.text.now t.at) u (cut_behind m source u 0 r.from r.front (start m source u) r.passed) r.sought

pub reached_new : (m : Mode) (source : List ℕ) (r : Lexed) → seen r ≡ next_of m source 0 → ∥ IsReached m source r ∥₁
reached_new m source r e = ∣ record { front = []; from = 0; passed = here; sought = e } ∣₁

pub reached_on : (m : Mode) (source : List ℕ) (next r : Lexed) (t : Token) (at : ℕ) → ∥ IsUtf8 source ∥₁ → next ≡ lexed.Token t → at ≡ t.at + length t.text.now → seen r ≡ next_of m source at
    → ∥ IsReached m source next ∥₁ → ∥ IsReached m source r ∥₁
reached_on m source next r t at u e f is had =
    let reached : ∥ IsReached m source (lexed.Token t) ∥₁ = subst (λ (l : Lexed). ∥ IsReached m source l ∥₁) e had in
    ∥∥₁_map reached (λ k. record {
      front = k.front ++ spelled t ∷ [];
      from = t.at + length t.text.now;
      passed = between_more m source 0 k.from t.at k.front t.kind t.text.now k.passed (reached_first m source t (IsUtf8-had source u) k);
      sought = is ∙ ap (next_of m source) f;
    })

pub cut_next : (m : Mode) (source : List ℕ) (at : ℕ) (r : Lexed) → ∥ IsUtf8 source ∥₁ → Lexes m source at r → IsCharBoundary source (behind_place source r)
cut_next m source at r u h = cut_lexed m source (IsUtf8-had source u) at r h

pub ahead_on : (m : Mode) (source : List ℕ) (next r : Lexed) (t : Token) (at : ℕ) → ∥ IsUtf8 source ∥₁ → next ≡ lexed.Token t → at ≡ t.at + length t.text.now →
    IsCharBoundary source (behind_place source next)
    → seen r ≡ next_of m source at → ahead_of m source r ≡ behind_next (ahead_of m source next)
ahead_on m source next r t at u e f cut is =
    let b : IsCharBoundary source (t.at + length t.text.now) = subst (λ (l : Lexed). IsCharBoundary source (behind_place source l)) e cut in
    sym (stream_lexed m source (IsUtf8-had source u) (t.at + length t.text.now) r b (is ∙ ap (next_of m source) f))
    ∙ sym (ap (λ (l : Lexed). behind_next (ahead_of m source l)) e)

-- the next token's text spells its kind
of_kind : (m : Mode) (source : List ℕ) (t : Token) → IsUtf8 source → ∥ IsReached m source (lexed.Token t) ∥₁ → is_kind t.kind (kind_from m Start (chars t.text.now)) ≡ true
of_kind m source t u had = ∥∥₁_elim had (hlevel props) (λ k.
    let f = reached_first m source t u k in
    ap (is_kind t.kind) (to_kind m t.kind (chars t.text.now) f.longest.spelled) ∙ some_is_kind t.kind (Some t.kind) refl)

pub lends : (m : Mode) (source : List ℕ) (next : Lexed) (t : Token) → ∥ IsUtf8 source ∥₁ → next ≡ lexed.Token t → ∥ IsReached m source next ∥₁ → Lends (ahead_of m source next) (Some t)
lends m source next t u e had =
    let reached : ∥ IsReached m source (lexed.Token t) ∥₁ = subst (λ (l : Lexed). ∥ IsReached m source l ∥₁) e had in (
      (stream_from m source (t.at + length t.text.now), ap (ahead_of m source) e),
      (m, from_kind m t.kind (chars t.text.now) (is_kind_some t.kind (kind_from m Start (chars t.text.now)) (of_kind m source t (IsUtf8-had source u) reached))),
    )
