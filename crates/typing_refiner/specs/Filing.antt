-- How the records of a refinement are put together (own).
use Rattle.std.specs.Prelude.{ℕ, suc, List, [], ◌∷◌, ◌++◌, ◌≡◌, ◌≢◌, ◌<◌, ◌⊎◌, length, slice_get, slice_set, Option, Some, Contains}
use Rattle.std.specs.List.Sorted.{IsStrictlySortedBy}
use Rattle.rdf_terms.specs.declared.terms.Term.{Term}
use Rattle.rdf_terms.specs.declared.terms.TermId.{TermId}
use Rattle.rdf_terms.specs.Order.{compare_at}
use Rattle.schema_tree.specs.declared.schema.Pair.{Pair}
use Rattle.schema_tree.specs.Edges.{level}
use Rattle.schema_tree.specs.Rising.{Rises}
use Rattle.proof_file.specs.declared.Record.{Record}
use Rattle.proof_file.specs.declared.RecordKind.{RecordKind}
use Rattle.proof_file.specs.declared.RecordKind.TheVariants.{Minus, Plus}
use Rattle.proof_file.specs.declared.Section.{Section}
use Rattle.proof_file.specs.Text.{IsRecordBefore, IsSectionBefore}
use Rattle.typing_refiner.specs.declared.removal.Removed.{Removed}
use Rattle.typing_refiner.specs.declared.strata_loop.Confirmed.{Confirmed}
use Rattle.typing_refiner.specs.Evidence.{IsListed, IsRecordOf}

-- ---- what is said of pairs, at their numbers

-- what is said of the pairs that went takes its places
abbrev pub put_gone : List Removed → List (Option RecordKind) → List (Option RecordKind)
put_gone [] kinds = kinds
put_gone (x ∷ xs) kinds = put_gone xs (slice_set kinds x.at (Some (Minus x.rank x.states)))

-- what is said of the pairs that went on each stratum takes its places
abbrev pub put_strata : List (List Removed) → List (Option RecordKind) → List (Option RecordKind)
put_strata [] kinds = kinds
put_strata (v ∷ vs) kinds = put_strata vs (put_gone v kinds)

-- what is said of the pairs that are confirmed takes its places
abbrev pub put_confirmed : List Confirmed → List (Option RecordKind) → List (Option RecordKind)
put_confirmed [] kinds = kinds
put_confirmed (c ∷ cs) kinds = put_confirmed cs (slice_set kinds c.at (Some (Plus c.places)))

-- ---- the nodes that records count

-- the list ends with the node
abbrev pub EndsWith : List TermId → TermId → Type 0
EndsWith nodes n = (i : ℕ) × (suc i ≡ length nodes) × (slice_get nodes i ≡ Some n)

-- the node has the last number, and is new where the list did not end with it
abbrev pub IsNumbered : List TermId → TermId → List TermId → ℕ → Type 0
IsNumbered old n new i =
    (slice_get new i ≡ Some n) × (length new ≡ suc i) × ((new ≡ old) ⊎ ((new ≡ old ++ n ∷ []) × (¬ EndsWith old n)))

-- ---- records by strata

-- the list of the stratum has the record
abbrev pub HasRecord : List (List Record) → ℕ → Record → Type 0
HasRecord lists k r = (rs : List Record) × (slice_get lists k ≡ Some rs) × Contains rs r

-- the record goes last in one of the lists
abbrev pub IsPushed : List (List Record) → ℕ → Record → List (List Record) → Type 0
IsPushed old k r new =
    (rs : List Record) × (slice_get old k ≡ Some rs) × (slice_get new k ≡ Some (rs ++ r ∷ []))
    × ((j : ℕ) → j ≢ k → slice_get new j ≡ slice_get old j)

-- the lists have a record for each of the first so many numbers of which something is said
pub record IsFiled (terms : List Term) (f : List ℕ) (table : List Pair) (kinds : List (Option RecordKind)) (at : ℕ) (nodes : List TermId) (lists : List (List Record)) : Type 0 where
  pub each : (k : ℕ) (r : Record) → HasRecord lists k r →
      (i : ℕ) × (p : Pair) × (i < at) × (slice_get table i ≡ Some p) × IsRecordOf nodes r p × (level f p.shape ≡ k) × (slice_get kinds i ≡ Some (Some r.kind))
  pub whole : (i : ℕ) (p : Pair) (kind : RecordKind) → i < at → slice_get table i ≡ Some p → slice_get kinds i ≡ Some (Some kind) →
      (r : Record) × HasRecord lists (level f p.shape) r × IsRecordOf nodes r p
  pub used : (j : ℕ) (n : TermId) → slice_get nodes j ≡ Some n → (k : ℕ) × (r : Record) × HasRecord lists k r × (r.node ≡ j)
  pub rising : (k : ℕ) (rs : List Record) → slice_get lists k ≡ Some rs → Rises IsRecordBefore rs
  pub order : IsStrictlySortedBy (compare_at terms) nodes

-- the section of a stratum that has records
abbrev pub section_of : ℕ → List Record → List Section
section_of k [] = []
section_of k (r ∷ rs) = record { stratum = k; records = r ∷ rs } ∷ []

-- the sections of the lists, which are of the strata from k on
abbrev pub sections_from : ℕ → List (List Record) → List Section
sections_from k [] = []
sections_from k (rs ∷ lists) = section_of k rs ++ sections_from (suc k) lists

-- the sections have a record for each number of which something is said
pub record AreFiled (terms : List Term) (f : List ℕ) (table : List Pair) (kinds : List (Option RecordKind)) (nodes : List TermId) (sections : List Section) : Type 0 where
  pub each : (k : ℕ) (r : Record) → IsListed sections k r →
      (i : ℕ) × (p : Pair) × (slice_get table i ≡ Some p) × IsRecordOf nodes r p × (level f p.shape ≡ k) × (slice_get kinds i ≡ Some (Some r.kind))
  pub whole : (i : ℕ) (p : Pair) (kind : RecordKind) → slice_get table i ≡ Some p → slice_get kinds i ≡ Some (Some kind) →
      (r : Record) × IsListed sections (level f p.shape) r × IsRecordOf nodes r p
  pub used : (n : TermId) → Contains nodes n → (k : ℕ) × (r : Record) × IsListed sections k r × (slice_get nodes r.node ≡ Some n)
  pub some : (x : Section) → Contains sections x → (r : Record) × Contains x.records r
  pub sections_rise : Rises IsSectionBefore sections
  pub records_rise : (x : Section) → Contains sections x → Rises IsRecordBefore x.records
  pub order : IsStrictlySortedBy (compare_at terms) nodes
