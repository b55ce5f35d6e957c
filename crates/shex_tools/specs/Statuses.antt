-- The statuses of a call.
use Rattle.std.specs.Prelude.{ℕ, ◌≡◌, ◌⊎◌}
use Rattle.call_ends.specs.Statuses.{IsInterrupted}

-- there is an answer: 0; 1, where some association is not as asked, or a shard lacks a line; or 4, where it leaves something out
abbrev pub IsAnswering : ℕ → Type 0
IsAnswering status = (status ≡ 0) ⊎ ((status ≡ 1) ⊎ (status ≡ 4))

-- the statuses: 0, 1 and 4 for answers, 2 for the words, 3 for a file that is refused, 5 for one that was not fetched, 7 for a sink, 8 for
-- memory
abbrev pub IsStatus : ℕ → Type 0
IsStatus status = IsAnswering status ⊎ ((status ≡ 2) ⊎ ((status ≡ 3) ⊎ IsInterrupted status))
