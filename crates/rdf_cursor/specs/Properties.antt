-- What is asked of a reader, and what follows for the place of a fault.
use Rattle.std.specs.Prelude.{◌⊎◌, ◌≡◌, ◌<◌, List, Ok, Err}
use Rattle.rdf_cursor.specs.Ahead.{Ahead, prepend, count, SameNext}
use Rattle.rdf_cursor.specs.Readers.{Answer, Reader}

-- The answer depends on the tokens that are passed and on the next one, and on nothing behind it.
abbrev pub IsLocalAt : {T F A : Type 0} → Reader T F A → Ahead T → Answer T F A → Type 0
IsLocalAt {T = T} p ts (Ok x) = (front : List T) × (ts ≡ prepend front x.1) × ((other : Ahead T) → SameNext x.1 other → p (prepend front other) ≡ Ok (x.0, other))
IsLocalAt {T = T} p ts (Err e) = (front : List T) × (ts ≡ prepend front e.1) × ((other : Ahead T) → SameNext e.1 other → p (prepend front other) ≡ Err (e.0, other))

abbrev pub IsLocal : {T F A : Type 0} → Reader T F A → Type 0
IsLocal {T = T} p = (ts : Ahead T) → IsLocalAt p ts (p ts)

-- A value is answered only behind a token that was taken.
abbrev pub Consumes : {T F A : Type 0} → Reader T F A → Type 0
Consumes {T = T} {A = A} p = (ts : Ahead T) (x : A) (rest : Ahead T) → p ts ≡ Ok (x, rest) → count rest < count ts

-- From a place on, no document goes on as the text does: what lies ahead is a front and what lies ahead of that place,
-- and no document is spelled by that front and anything that goes on with the same token, or has the same end.
pub record Blocked {T A : Type 0} (Spells : A → Ahead T → Type 0) (ts rest : Ahead T) : Type 0 where
  pub front : List T
  pub parts : ts ≡ prepend front rest
  pub none : (x : A) (other : Ahead T) → SameNext rest other → ¬ Spells x (prepend front other)

-- Two readers agree but for some faults: a value is answered by both; a fault is common and answered by both, or it is
-- one that the first answers alone.
abbrev pub AgreesAt : {T F A : Type 0} → (F → Type 0) → (F → Ahead T → Type 0) → Answer T F A → Answer T F A → Type 0
AgreesAt Common Alone (Ok x) other = other ≡ Ok x
AgreesAt Common Alone (Err e) other = (Common e.0 × (other ≡ Err e)) ⊎ Alone e.0 e.1

abbrev pub Agrees : {T F A : Type 0} → (F → Type 0) → (F → Ahead T → Type 0) → Reader T F A → Reader T F A → Type 0
Agrees {T = T} Common Alone p q = (ts : Ahead T) → AgreesAt Common Alone (p ts) (q ts)
