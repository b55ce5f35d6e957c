-- The line that says what is wrong.
use Rattle.std.specs.Prelude.{ℕ, List, ◌++◌, codes}

-- `PROGRAM: PLACE: WHAT` with a line feed
abbrev pub error_line : List ℕ → List ℕ → List ℕ → List ℕ
error_line program place what = program ++ (codes ": " ++ (place ++ (codes ": " ++ (what ++ codes "\n"))))
