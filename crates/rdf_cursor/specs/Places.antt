-- Places of a text: of what lies ahead, and that at which it was refused.
use Rattle.std.specs.Prelude.{◌≡◌, ℕ, ◌<◌, List, ◌∷◌, ◌++◌, length, drop}
use Rattle.std.specs.Str.{chars}
use Rattle.rdf_cursor.specs.Ahead.{Ahead, finished, broken, token}
use Rattle.rdf_lex.specs.declared.kinds.Mode.{Mode}
use Rattle.rdf_lex.specs.Tokens.{Spelled, Between, IsFirst, IsSkipped, BeginsNone, Tokens}

-- What lies ahead from one place of a text on stands at the other: its first token, or characters that form none, or the end.
abbrev pub StandsAt : Mode → List ℕ → ℕ → Ahead Spelled → ℕ → Type 0
StandsAt m source from (token t more) at = IsFirst m source from t.kind t.text at
StandsAt m source from broken at = IsSkipped m source from at × (at < length source) × BeginsNone m (chars (drop at source))
StandsAt m source from finished at = IsSkipped m source from at × (at ≡ length source)

-- Which tokens spell which document is given. From the place on, no document goes on as the text does.
pub data IsFaultPlace {A : Type 0} (Spells : A → List Spelled → Type 0) (m : Mode) (source : List ℕ) (at : ℕ) : Type 0 where
  -- a token stands there, and no document's tokens begin with the tokens up to that one
  at_token : (front : List Spelled) (from : ℕ) (t : Spelled) → Between m source 0 front from → IsFirst m source from t.kind t.text at
      → ((x : A) (more : List Spelled) → ¬ Spells x (front ++ t ∷ more)) → IsFaultPlace Spells m source at
  -- behind some tokens the characters form no token there: none spells a prefix of the rest
  at_characters : (front : List Spelled) (from : ℕ) → Between m source 0 front from → IsSkipped m source from at → at < length source → BeginsNone m (chars (drop at source))
      → IsFaultPlace Spells m source at
  -- the text ends there, and its tokens spell no document
  at_end : (ts : List Spelled) → Tokens m source ts → at ≡ length source → ((x : A) → ¬ Spells x ts) → IsFaultPlace Spells m source at
