-- Phrases: relations between what lies ahead before and behind some tokens, from which a grammar is written.
use Rattle.std.specs.Prelude.{◌≡◌, Result, Ok}
use Rattle.rdf_cursor.specs.Ahead.{Ahead, token}

abbrev pub Phrase : Type 0 → Type 1
Phrase T = Ahead T → Ahead T → Type 0

-- one token, which stands for a value by its class
abbrev pub Is : {T F A : Type 0} → (T → Result A F) → A → Phrase T
Is {T = T} class x ts rest = (t : T) × (ts ≡ token t rest) × (class t ≡ Ok x)

-- no token
abbrev pub Nothing : {T : Type 0} → Phrase T
Nothing ts rest = ts ≡ rest

infixr 10 ◌⨾◌
-- one phrase, and behind it another
abbrev pub ◌⨾◌ : {T : Type 0} → Phrase T → Phrase T → Phrase T
◌⨾◌ {T = T} P Q ts rest = (mid : Ahead T) × P ts mid × Q mid rest

-- a phrase any number of times, from state to state
pub data Many {T S : Type 0} (One : S → S → Phrase T) : S → S → Ahead T → Ahead T → Type 0 where
  none : {s : S} {ts : Ahead T} → Many One s s ts ts
  more : {s x y : S} {ts mid rest : Ahead T} → One s x ts mid → Many One x y mid rest → Many One s y ts rest
