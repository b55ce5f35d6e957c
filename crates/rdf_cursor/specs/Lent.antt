-- What comes next, as a cursor keeps it.
use Rattle.std.specs.Prelude.{◌≡◌, ℕ, ◌+◌, List, length, Option, Some, None, true, false}
use Rattle.std.specs.Str.{chars}
use Rattle.rdf_cursor.specs.Ahead.{Ahead, finished, broken, token, next_is}
use Rattle.rdf_lex.specs.declared.kinds.Mode.{Mode}
use Rattle.rdf_lex.specs.declared.lexed.Lexed.{Lexed}
use Rattle.rdf_lex.specs.declared.lexed.Lexed.TheVariants as lexed
use Rattle.rdf_lex.specs.declared.lexed.Token.{Token}
use Rattle.rdf_lex.specs.Escapes.{IsSpelled}
use Rattle.rdf_lex.specs.Scan.{next_of, seen}
use Rattle.rdf_lex.specs.Tokens.{Spelled, Between}
use Rattle.rdf_cursor.specs.Streams.{stream_from}

-- a token without its place
abbrev pub spelled : Token → Spelled
spelled t = record { kind = t.kind; text = t.text.now }

-- what lies ahead, by what comes next
abbrev pub ahead_of : Mode → List ℕ → Lexed → Ahead Spelled
ahead_of m source (lexed.Token t) = token (spelled t) (stream_from m source (t.at + length t.text.now))
ahead_of m source lexed.End = finished
ahead_of m source (lexed.Bad place) = broken

-- the place of what comes next: that of the token, that where no token begins, or the end
abbrev pub place_of : List ℕ → Lexed → ℕ
place_of source (lexed.Token t) = t.at
place_of source lexed.End = length source
place_of source (lexed.Bad place) = place

-- the place behind a token that comes next
abbrev pub behind_place : List ℕ → Lexed → ℕ
behind_place source (lexed.Token t) = t.at + length t.text.now
behind_place source lexed.End = length source
behind_place source (lexed.Bad place) = place

-- some tokens of the text lead to a place at which this comes next
pub record IsReached (m : Mode) (source : List ℕ) (next : Lexed) : Type 0 where
  pub front : List Spelled
  pub from : ℕ
  pub passed : Between m source 0 front from
  pub sought : seen next ≡ next_of m source from

-- the token that is next, whose text spells its kind in some language
abbrev pub Lends : Ahead Spelled → Option Token → Type 0
Lends ahead (Some t) = ((rest : Ahead Spelled) × (ahead ≡ token (spelled t) rest)) × IsSpelled t.kind (chars t.text.now)
Lends ahead None = next_is (λ t. true) ahead ≡ false

-- what lies ahead behind the next token
abbrev pub behind_next : Ahead Spelled → Ahead Spelled
behind_next finished = finished
behind_next broken = broken
behind_next (token t ts) = ts

-- this lies ahead of some tokens of the text, and what comes next stands at this place
pub record Stands (m : Mode) (source : List ℕ) (ahead : Ahead Spelled) (place : ℕ) : Type 0 where
  pub next : Lexed
  pub lent : ahead ≡ ahead_of m source next
  pub placed : place ≡ place_of source next
  pub reached : ∥ IsReached m source next ∥₁
