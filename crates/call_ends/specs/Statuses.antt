-- The statuses of programs that store nothing.
use Rattle.std.specs.Prelude.{ℕ, Bool, ◌≡◌, ◌⊎◌, if◌then◌else◌}

-- there is an answer: 0, or 4 where it leaves something out
abbrev pub IsAnswering : ℕ → Type 0
IsAnswering status = (status ≡ 0) ⊎ (status ≡ 4)

-- the status of an answer: 4 where something in it is left undecided, and else 0
unfoldable pub status_by : Bool → ℕ
status_by undecided = if undecided then 4 else 0

-- printing stopped: a sink failed, or memory ran out
abbrev pub IsCutOff : ℕ → Type 0
IsCutOff status = (status ≡ 7) ⊎ (status ≡ 8)

-- a fault of the outside or want of memory ended the call
abbrev pub IsInterrupted : ℕ → Type 0
IsInterrupted status = (status ≡ 5) ⊎ IsCutOff status

-- the statuses: 0 and 4 for answers, 2 for the words, 3 for a file that is refused, 5 for one that was not fetched, 7 for a sink, 8 for
-- memory
abbrev pub IsStatus : ℕ → Type 0
IsStatus status = IsAnswering status ⊎ ((status ≡ 2) ⊎ ((status ≡ 3) ⊎ IsInterrupted status))
