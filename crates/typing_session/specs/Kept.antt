-- The verdicts that are kept on pairs (own).
use Rattle.std.specs.Prelude.{Bool, true, false, List, ◌++◌, ◌≡◌, Contains, Option, Some, None, filter, map}
use Rattle.std.specs.Map.{lookup}
use Rattle.removal_laws.specs.Marks.{same_verdict}
use Rattle.schema_tree.specs.declared.schema.Pair.{Pair}
use Rattle.schema_tree.specs.declared.verdicts.Verdict.{Verdict}
use Rattle.schema_tree.specs.declared.verdicts.Verdict.TheVariants.{No, Yes}
use Rattle.schema_tree.specs.Entries.{same_pair}
use Rattle.schema_tree.specs.Sure.{Known, PairIs}

-- the pairs on which there is a verdict
abbrev pub pairs_of : List (Pair × Verdict) → List Pair
pairs_of entries = map (λ e. e.0) entries

-- the verdict on the pair, if there is one
abbrev pub kept_on : List (Pair × Verdict) → Pair → Option Verdict
kept_on entries q = lookup (same_pair q) entries

-- there is no verdict
abbrev pub is_free : Option Verdict → Bool
is_free None = true
is_free (Some w) = false

-- there is one, and it is this
abbrev pub is_that : Verdict → Option Verdict → Bool
is_that v None = false
is_that v (Some w) = same_verdict v w

-- the pairs whose verdict is this
abbrev pub pairs_with : Verdict → List (Pair × Verdict) → List Pair
pairs_with v entries = filter (λ q. is_that v (kept_on entries q)) (pairs_of entries)

-- what is known by the verdicts that are kept
abbrev pub known_by_kept : List (Pair × Verdict) → Known
known_by_kept entries = record { yes = pairs_with Yes entries; no = pairs_with No entries }

-- those of the pairs on which there is none
abbrev pub fresh_of : List (Pair × Verdict) → List Pair → List Pair
fresh_of entries pairs = filter (λ q. is_free (kept_on entries q)) pairs

-- the pairs go last, each with its verdict by what is known
pub record Gains (known : Known) (pairs : List Pair) (old new : List (Pair × Verdict)) : Type 0 where
  pub more : List (Pair × Verdict)
  pub is : new ≡ old ++ more
  pub pairs_are : pairs_of more ≡ pairs
  pub verdicts_are : (q : Pair) (v : Verdict) → Contains more (q, v) → PairIs known q v

-- more go last, whatever these are
abbrev pub Begins : List (Pair × Verdict) → List (Pair × Verdict) → Type 0
Begins old new = (more : List (Pair × Verdict)) × (new ≡ old ++ more)
