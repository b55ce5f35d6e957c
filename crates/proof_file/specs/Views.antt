-- Which records of a proof another record, or a claim, may use (own).
use Rattle.std.specs.Prelude.{ℕ, suc, Bool, List, [], ◌∷◌, ◌&&◌, ◌||◌, map, filter, Option, Some, slice_get, nat_lt, nat_eq, option_map}
use Rattle.std.specs.List.{flat_map}
use Rattle.rdf_terms.specs.declared.terms.TermId.{TermId}
use Rattle.schema_tree.specs.declared.schema.Pair.{Pair}
use Rattle.schema_tree.specs.Edges.{level}
use Rattle.schema_tree.specs.Typings.{below}
use Rattle.schema_tree.specs.Sure.{Known}
use Rattle.proof_file.specs.declared.RecordKind.{RecordKind}
use Rattle.proof_file.specs.declared.RecordKind.TheVariants.{Plus, Minus}
use Rattle.proof_file.specs.declared.Record.{Record}
use Rattle.proof_file.specs.declared.Proof.{Proof}

-- a pair that is said not to hold, and the rank at which it goes
pub record Refuted : Type 0 where
  pub pair : Pair
  pub rank : ℕ

-- the records of all sections
abbrev pub records_of : Proof → List Record
records_of p = flat_map (λ x. x.records) p.sections

abbrev pub pair_with : ℕ → TermId → Pair
pair_with shape n = record { node = n; shape = record { 0 = shape } }

-- the pair of a record, if its node has a line; nodes are the numbers of the node lines' terms
abbrev pub pair_at : List TermId → ℕ → ℕ → Option Pair
pair_at nodes n shape = option_map (pair_with shape) (slice_get nodes n)

abbrev pub plus_of : RecordKind → Option Pair → List Pair
plus_of (Plus places) (Some q) = q ∷ []
plus_of kind x = []

abbrev pub minus_of : RecordKind → Option Pair → List Refuted
minus_of (Minus rank states) (Some q) = record { pair = q; rank = rank } ∷ []
minus_of kind x = []

-- the pairs of the records that confirm
abbrev pub yes_pairs : List TermId → List Record → List Pair
yes_pairs nodes rs = flat_map (λ r. plus_of r.kind (pair_at nodes r.node r.shape)) rs

-- the pairs of the records that refute, with their ranks
abbrev pub no_pairs : List TermId → List Record → List Refuted
no_pairs nodes rs = flat_map (λ r. minus_of r.kind (pair_at nodes r.node r.shape)) rs

abbrev pub pairs_of : List Refuted → List Pair
pairs_of minus = map (λ q. q.pair) minus

-- what a record that confirms may use on the stratum k: pairs that are confirmed up to k, and refuted below it
abbrev pub plus_view : List ℕ → List Pair → List Refuted → ℕ → Known
plus_view f plus minus k = record { yes = below f (suc k) plus; no = below f k (pairs_of minus) }

-- the refuted pair is below the stratum k, or is on it with a smaller rank
abbrev pub is_before : List ℕ → ℕ → ℕ → Refuted → Bool
is_before f k rank q = nat_lt (level f q.pair.shape) k || (nat_eq (level f q.pair.shape) k && nat_lt q.rank rank)

-- what a record that refutes may use on the stratum k at this rank: pairs that are confirmed below k, and refuted before
abbrev pub minus_view : List ℕ → List Pair → List Refuted → ℕ → ℕ → Known
minus_view f plus minus k rank = record { yes = below f k plus; no = pairs_of (filter (is_before f k rank) minus) }

-- what a claim may use: all records
abbrev pub whole_view : List Pair → List Refuted → Known
whole_view plus minus = record { yes = plus; no = pairs_of minus }
