-- Laws of what lies ahead; those of readers at tokens, faults and values that are numbers, which proofs/ has for all types.
use Rattle.std.specs.Prelude.{◌≡◌, ◌↔◌, ℕ, Bool, true, List, Ok, Err}
use Rattle.std.specs.Str.{IsUtf8}
use Rattle.rdf_cursor.specs.Ahead.{Ahead, finished, prepend}
use Rattle.rdf_cursor.specs.Readers.{Reader, ◌>>=◌, give, either, loop}
use Rattle.rdf_cursor.specs.Properties.{IsLocal, Consumes, Blocked}
use Rattle.rdf_lex.specs.declared.kinds.Mode.{Mode}
use Rattle.rdf_lex.specs.Tokens.{Spelled, Tokens}
use Rattle.rdf_cursor.specs.Streams.{stream_from}

-- what lies ahead of a text's beginning is some tokens and the end exactly where the text is these tokens
abbrev pub StreamsAreTokens : Type 0
StreamsAreTokens = (m : Mode) (source : List ℕ) (ts : List Spelled) → IsUtf8 source → (stream_from m source 0 ≡ prepend ts finished) ↔ Tokens m source ts

-- a loop whose step takes a token is the step and the loop again, or nothing
abbrev pub LoopsGoOn : Type 0
LoopsGoOn = (class : ℕ → Bool) (step : ℕ → Reader ℕ ℕ ℕ) → ((s : ℕ) → Consumes (step s))
    → (s : ℕ) (ts : Ahead ℕ) → loop class step s ts ≡ either class (step s >>= loop class step) (give s) ts

-- where a local reader reads each document that is spelled, no document goes on as the text does at a fault
abbrev pub FaultsBlock : Type 0
FaultsBlock = (p : Reader ℕ ℕ ℕ) (spells : ℕ → Ahead ℕ → Bool) → IsLocal p → ((x : ℕ) (ts : Ahead ℕ) → spells x ts ≡ true → p ts ≡ Ok (x, finished))
    → (ts : Ahead ℕ) (f : ℕ) (rest : Ahead ℕ) → p ts ≡ Err (f, rest) → Blocked (λ x other. spells x other ≡ true) ts rest
