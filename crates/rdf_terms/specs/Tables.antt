-- Tables of terms.
use Rattle.std.specs.Prelude.{ℕ}

-- how many terms a table holds at most
abbrev pub max_terms : ℕ
max_terms = 4294967295
