-- What shows the verdicts of refinement (own): a record for each pair that has one.
use Rattle.std.specs.Prelude.{ℕ, zero, suc, List, [], ◌++◌, ◌≡◌, ◌<◌, ◌⊎◌, length, map, take, slice_get, Some, Contains}
use Rattle.std.specs.List.{AllZip}
use Rattle.std.specs.List.Sorted.{IsStrictlySortedBy}
use Rattle.rdf_terms.specs.declared.terms.Term.{Term}
use Rattle.rdf_terms.specs.declared.terms.TermId.{TermId}
use Rattle.rdf_terms.specs.declared.terms.Triple.{Triple}
use Rattle.rdf_terms.specs.Order.{compare_at}
use Rattle.schema_tree.specs.declared.schema.Pair.{Pair}
use Rattle.schema_tree.specs.declared.schema.Schema.{Schema}
use Rattle.schema_tree.specs.declared.verdicts.State.{State}
use Rattle.schema_tree.specs.Edges.{level}
use Rattle.schema_tree.specs.Entries.{shape_at}
use Rattle.schema_tree.specs.Removal.{IsRefinedAt}
use Rattle.schema_tree.specs.Rising.{Rises}
use Rattle.schema_tree.specs.Sure.{Known}
use Rattle.schema_tree.specs.Typings.{top_of}
use Rattle.proof_file.specs.declared.Proof.{Proof}
use Rattle.proof_file.specs.declared.Record.{Record}
use Rattle.proof_file.specs.declared.RecordKind.{RecordKind}
use Rattle.proof_file.specs.declared.RecordKind.TheVariants.{Minus, Plus}
use Rattle.proof_file.specs.declared.Section.{Section}
use Rattle.proof_file.specs.Accepts.{IsAccepted, in_section, setting_of}
use Rattle.proof_file.specs.Text.{IsKind, IsRecordBefore, IsSectionBefore}
use Rattle.removal_laws.specs.Marks.{KnowSame}
use Rattle.typing_refiner.specs.Records.{AreLeastFor, AreStatesFor, known_without}

-- a pair that went, its rank, and the states that showed that it cannot match
pub record Removal : Type 0 where
  pub pair : Pair
  pub rank : ℕ
  pub states : List State

-- the pairs that went, in turn
abbrev pub pairs_removed : List Removal → List Pair
pairs_removed rs = map (λ r. r.pair) rs

-- the record is of the pair, where these are the nodes that records count
abbrev pub IsRecordOf : List TermId → Record → Pair → Type 0
IsRecordOf nodes r p = (slice_get nodes r.node ≡ Some p.node) × (r.shape ≡ p.shape.0)

-- the record stands in one of the sections
abbrev pub IsListed : List Section → ℕ → Record → Type 0
IsListed sections k r = (x : Section) × Contains sections x × (x.stratum ≡ k) × Contains x.records r

module _ (s : Schema) (terms : List Term) (g : List Triple) (f : List ℕ) (pairs : List Pair) (budget : ℕ) where
  -- the pairs went in this turn, which gives the ranks from 1 on, and each has the states of the moment when those before it
  -- had gone; lower is what was known of the strata below
  abbrev pub AreInTurn : Known → List Removal → Type 0
  AreInTurn lower gone =
      (j : ℕ) (r : Removal) → slice_get gone j ≡ Some r →
      (r.rank ≡ suc j) × AreStatesFor s terms g (known_without lower (take j (pairs_removed gone))) r.pair.node (shape_at s r.pair.shape) r.states

  -- the verdicts of refinement on the strata below k, and what shows those that are No
  abbrev pub AreRemovals : ℕ → Known → List Removal → Type 0
  AreRemovals zero known all = (known.yes ≡ []) × (known.no ≡ []) × (all ≡ [])
  AreRemovals (suc k) known all =
      (lower : Known) × (low gone : List Removal) × (kept : List Pair) × AreRemovals k lower low
      × IsRefinedAt s terms g f pairs budget lower k (pairs_removed gone) kept × AreInTurn lower gone
      × (known.yes ≡ lower.yes ++ kept) × (known.no ≡ lower.no ++ pairs_removed gone) × (all ≡ low ++ gone)

  -- the record shows the verdict on the pair: the least places under the final verdicts, or the rank and the states of the
  -- moment of removal
  abbrev pub Shows : Known → List Removal → Pair → RecordKind → Type 0
  Shows known all p (Plus places) = Contains known.yes p × AreLeastFor s terms g known p.node (shape_at s p.shape) places
  Shows known all p (Minus rank states) = Contains all (record { pair = p; rank = rank; states = states })

  -- the sections have a record for exactly the pairs with Yes or No, each in the section of its stratum; sections, records
  -- and nodes are in order, and there is none without use
  pub record AreRecordsOf (known : Known) (all : List Removal) (nodes : List TermId) (sections : List Section) : Type 0 where
    pub each : (k : ℕ) (r : Record) → IsListed sections k r → (p : Pair) × IsRecordOf nodes r p × (level f p.shape ≡ k) × Shows known all p r.kind
    pub whole : (p : Pair) → Contains known.yes p ⊎ Contains known.no p → (r : Record) × IsListed sections (level f p.shape) r × IsRecordOf nodes r p
    pub nodes_rise : IsStrictlySortedBy (compare_at terms) nodes
    pub used : (n : TermId) → Contains nodes n → (k : ℕ) × (r : Record) × IsListed sections k r × (slice_get nodes r.node ≡ Some n)
    pub some : (x : Section) → Contains sections x → (r : Record) × Contains x.records r
    pub sections_rise : Rises IsSectionBefore sections
    pub records_rise : (x : Section) → Contains sections x → Rises IsRecordBefore x.records

  -- refinement is shown by these sections, whose records count the nodes
  abbrev pub AreShownBy : Known → List TermId → List Section → Type 0
  AreShownBy verdicts nodes sections =
      (known : Known) × (all : List Removal) × AreRemovals (suc (top_of f)) known all × KnowSame verdicts known × AreRecordsOf known all nodes sections

-- what the records say is within the limits of a proof's lines
abbrev pub AreFine : List Section → Type 0
AreFine sections = (k : ℕ) (r : Record) → IsListed sections k r → IsKind r.kind

-- the two are of the same node and Shape and say the same, each with its own list of nodes
abbrev pub IsSameRecord : List TermId → List TermId → Record → Record → Type 0
IsSameRecord nodes lines a b =
    (n : TermId) × (slice_get nodes a.node ≡ Some n) × (slice_get lines b.node ≡ Some n) × (a.shape ≡ b.shape) × (a.kind ≡ b.kind)

-- the sections are the same but for the numbers of nodes
abbrev pub AreRenumbered : List TermId → List Section → List TermId → List Section → Type 0
AreRenumbered nodes sections lines others = AllZip (λ a b. (a.stratum ≡ b.stratum) × AllZip (IsSameRecord nodes lines) a.records b.records) sections others

-- the pairs are of Shapes of the schema
abbrev pub HaveShapes : Schema → List Pair → Type 0
HaveShapes s pairs = (p : Pair) → Contains pairs p → p.shape.0 < length s.shapes

-- where the pairs are of Shapes of the schema, the records are accepted in each proof that has these sections, with these
-- nodes or, renumbered, with others; whatever it claims
abbrev pub AreAccepted : Schema → List Term → List Triple → List ℕ → List Pair → List TermId → List Section → Type 0
AreAccepted s terms g f pairs nodes sections =
    HaveShapes s pairs → (lines : List TermId) (p : Proof) → AreRenumbered nodes sections lines p.sections →
    (k : ℕ) (r : Record) → IsListed p.sections k r → IsAccepted (setting_of f s terms g lines) p (in_section k r)
