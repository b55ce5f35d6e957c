-- How a call ends whose words are refused.
use Rattle.std.specs.Prelude.{ℕ, List, ◌≡◌, ◌≢◌, ◌⊎◌}
use Rattle.program_ends.specs.Printing.{IsQuiet, PrintsTo, SinkSeen}

-- for an error of the words, of which one is want of memory, and its line: the line is printed; or memory ran out, and nothing is
abbrev pub RefusesWords : {E : Type 0} → E → E → List ℕ → SinkSeen → ℕ → Type 0
RefusesWords memory error line sink status =
    ((error ≡ memory) × IsQuiet sink × (status ≡ 8))
    ⊎ ((error ≢ memory) × PrintsTo sink line 2 status)
