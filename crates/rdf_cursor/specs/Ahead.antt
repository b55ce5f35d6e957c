-- The tokens that lie ahead of a place in a text.
use Rattle.std.specs.Prelude.{◌≡◌, ℕ, suc, Bool, false, List, [], ◌∷◌}

-- no more, up to the end of the text; no more, up to characters that form no token; or a token and those behind it
pub data Ahead (T : Type 0) : Type 0 where
  finished : Ahead T
  broken : Ahead T
  token : T → Ahead T → Ahead T

-- some tokens, and behind them what lies ahead there
abbrev pub prepend : {T : Type 0} → List T → Ahead T → Ahead T
prepend [] rest = rest
prepend (t ∷ ts) rest = token t (prepend ts rest)

-- how many tokens lie ahead
abbrev pub count : {T : Type 0} → Ahead T → ℕ
count finished = 0
count broken = 0
count (token t ts) = suc (count ts)

-- whether the next token is of a class
abbrev pub next_is : {T : Type 0} → (T → Bool) → Ahead T → Bool
next_is class (token t ts) = class t
next_is class finished = false
next_is class broken = false

-- both end in the same way, or begin with the same token
abbrev pub SameNext : {T : Type 0} → Ahead T → Ahead T → Type 0
SameNext finished finished = Unit {0}
SameNext broken broken = Unit {0}
SameNext (token t ts) (token u us) = t ≡ u
SameNext _ _ = ⊥
