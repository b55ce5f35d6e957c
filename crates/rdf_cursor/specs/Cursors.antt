-- What lies ahead of a cursor.
use Rattle.std.specs.Prelude.{ℕ, List}
use Rattle.rdf_cursor.specs.Ahead.{Ahead}
use Rattle.rdf_lex.specs.declared.kinds.Mode.{Mode}
use Rattle.rdf_lex.specs.Tokens.{Spelled}
use Rattle.rdf_cursor.specs.declared.cursor.Cursor.{Cursor}
use Rattle.rdf_cursor.specs.Lent.{ahead_of}

-- the language of the text, and its bytes
abbrev pub mode_of : Cursor → Mode
mode_of c = c.mode

abbrev pub source_of : Cursor → List ℕ
source_of c = c.source.now

-- a text in a language
pub record Source : Type 0 where
  pub mode : Mode
  pub text : List ℕ

abbrev pub source_in : Cursor → Source
source_in c = record { mode = c.mode; text = c.source.now }

-- the tokens from the next one on
abbrev pub ahead : Cursor → Ahead Spelled
ahead c = ahead_of c.mode c.source.now c.next
