-- What the records of a proof say of a pair, and what of it a record or a claim may use (own).
use Rattle.std.specs.Prelude.{ℕ, suc, Bool, true, false, List, ◌&&◌, ◌≡◌, ◌≤◌, map, filter, min, nat_lt, nat_eq, Option, Some, None, Contains, unwrap_or, ◌||◌}
use Rattle.std.specs.List.{flat_map}
use Rattle.std.specs.Map.{lookup}
use Rattle.schema_tree.specs.declared.schema.Pair.{Pair}
use Rattle.schema_tree.specs.Entries.{same_pair}
use Rattle.schema_tree.specs.Edges.{level}
use Rattle.schema_tree.specs.Sure.{Known}
use Rattle.proof_file.specs.declared.RecordKind.{RecordKind}
use Rattle.proof_file.specs.declared.RecordKind.TheVariants.{Plus, Minus}
use Rattle.proof_file.specs.declared.Record.{Record}
use Rattle.proof_file.specs.declared.Section.{Section}
use Rattle.proof_file.specs.Views.{Refuted, plus_view, minus_view, whole_view}
use Rattle.proof_checker.specs.declared.standings.Standing.{Standing}
use Rattle.proof_checker.specs.declared.standings.Reader.{Reader}
use Rattle.proof_checker.specs.declared.standings.Reader.TheVariants.{Confirms, Refutes, Claims}

-- no record says anything
abbrev pub unsaid : Standing
unsaid = record { confirmed = false; rank = None }

-- the smaller of a rank and another, if there is one
abbrev pub least_rank : ℕ → Option ℕ → ℕ
least_rank r None = r
least_rank r (Some least) = min least r

-- one more record of this kind says it
abbrev pub said_by : RecordKind → Standing → Standing
said_by (Plus places) s = record { confirmed = true; rank = s.rank }
said_by (Minus r states) s = record { confirmed = s.confirmed; rank = Some (least_rank r s.rank) }

-- what is said of the pair
abbrev pub standing_in : List (Pair × Standing) → Pair → Standing
standing_in entries q = unwrap_or (lookup (same_pair q) entries) unsaid

-- the least rank, if there is one, is at most r
abbrev pub IsAtMost : Option ℕ → ℕ → Type 0
IsAtMost None r = ⊥
IsAtMost (Some least) r = least ≤ r

-- the standing is what the confirmed and the refuted pairs say of q: whether it is confirmed, and the least rank with
-- which it is refuted
pub record IsStanding (plus : List Pair) (minus : List Refuted) (q : Pair) (s : Standing) : Type 0 where
  pub confirms : s.confirmed ≡ true → Contains plus q
  pub confirmed : Contains plus q → s.confirmed ≡ true
  pub refutes : (r : ℕ) → s.rank ≡ Some r → Contains minus (record { pair = q; rank = r })
  pub refuted : (r : ℕ) → Contains minus (record { pair = q; rank = r }) → IsAtMost s.rank r

-- each pair has its standing
abbrev pub AreStandings : List Pair → List Refuted → List (Pair × Standing) → Type 0
AreStandings plus minus entries = (q : Pair) → IsStanding plus minus q (standing_in entries q)

-- the records of some sections
abbrev pub records_in : List Section → List Record
records_in sections = flat_map (λ x. x.records) sections

-- what a reader on a stratum and rank may use, of some confirmed and refuted pairs
abbrev pub view_of : List ℕ → List Pair → List Refuted → Reader → Known
view_of f plus minus (Confirms k) = plus_view f plus minus k
view_of f plus minus (Refutes k rank) = minus_view f plus minus k rank
view_of f plus minus Claims = whole_view plus minus

-- the reader may use a confirmed pair of the stratum
abbrev pub sees_plus : Reader → ℕ → Bool
sees_plus (Confirms k) l = nat_lt l (suc k)
sees_plus (Refutes k rank) l = nat_lt l k
sees_plus Claims l = true

-- the reader may use a pair of the stratum that is refuted with the rank
abbrev pub sees_minus : Reader → ℕ → ℕ → Bool
sees_minus (Confirms k) l r = nat_lt l k
sees_minus (Refutes k rank) l r = nat_lt l k || (nat_eq l k && nat_lt r rank)
sees_minus Claims l r = true

-- the reader may take it as confirmed
abbrev pub is_plus : List ℕ → Reader → List (Pair × Standing) → Pair → Bool
is_plus f reader entries q = (standing_in entries q).confirmed && sees_plus reader (level f q.shape)

-- the reader may use a pair of the stratum with this least rank, if there is one
abbrev pub sees_rank : Reader → ℕ → Option ℕ → Bool
sees_rank reader l None = false
sees_rank reader l (Some r) = sees_minus reader l r

-- the reader may take it as refuted
abbrev pub is_minus : List ℕ → Reader → List (Pair × Standing) → Pair → Bool
is_minus f reader entries q = sees_rank reader (level f q.shape) (standing_in entries q).rank

-- the pairs that the reader may take as confirmed, and those that it may take as refuted
abbrev pub known_from : List ℕ → List (Pair × Standing) → Reader → Known
known_from f entries reader = record {
  yes = filter (is_plus f reader entries) (map (λ e. e.0) entries);
  no = filter (is_minus f reader entries) (map (λ e. e.0) entries);
}
