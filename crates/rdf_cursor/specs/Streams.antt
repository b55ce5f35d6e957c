-- The tokens that lie ahead of a place of a text.
use Rattle.std.specs.Prelude.{ℕ, zero, suc, ◌+◌, List, length}
use Rattle.rdf_cursor.specs.Ahead.{Ahead, finished, broken, token}
use Rattle.rdf_lex.specs.declared.kinds.Mode.{Mode}
use Rattle.rdf_lex.specs.Tokens.{Spelled}
use Rattle.rdf_lex.specs.Scan.{Next, at_end, at_bad, at_token, next_of}

-- what lies ahead, by what comes next and what lies ahead of the place behind that
abbrev pub stream_on : (ℕ → Ahead Spelled) → Next → Ahead Spelled
stream_on behind at_end = finished
stream_on behind (at_bad place) = broken
stream_on behind (at_token k text place) = token (record { kind = k; text = text }) (behind (place + length text))

-- so many tokens at most
abbrev pub stream_within : ℕ → Mode → List ℕ → ℕ → Ahead Spelled
stream_within zero m source at = finished
stream_within (suc n) m source at = stream_on (stream_within n m source) (next_of m source at)

-- a text has no more tokens than bytes
unfoldable pub stream_from : Mode → List ℕ → ℕ → Ahead Spelled
stream_from m source at = stream_within (suc (length source)) m source at
