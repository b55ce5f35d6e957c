-- Lists of bytes.
use Rattle.std.specs.Prelude.{ℕ, List, ◌≡◌, ◌++◌}

-- the bytes begin the whole
abbrev pub IsPrefix : List ℕ → List ℕ → Type 0
IsPrefix bytes whole = (rest : List ℕ) × (whole ≡ bytes ++ rest)
