-- The proof that is stored for answers (own).
use Rattle.std.specs.Prelude.{ℕ, List, ◌≡◌, ◌<◌, ◌≤◌, ◌⊎◌, ◌↔◌, length, Contains, Some, slice_get}
use Rattle.std.specs.List.Sorted.{IsStrictlySortedBy}
use Rattle.rdf_terms.specs.OneLine.{HasOneLine}
use Rattle.rdf_terms.specs.Order.{compare_at}
use Rattle.rdf_terms.specs.declared.terms.Term.{Term}
use Rattle.rdf_terms.specs.declared.terms.TermId.{TermId}
use Rattle.rdf_terms.specs.declared.terms.Triple.{Triple}
use Rattle.schema_tree.specs.declared.schema.Answer.{Answer}
use Rattle.schema_tree.specs.declared.schema.ExprId.{ExprId}
use Rattle.schema_tree.specs.declared.schema.Pair.{Pair}
use Rattle.schema_tree.specs.declared.schema.Schema.{Schema}
use Rattle.schema_tree.specs.Edges.{IsStratum}
use Rattle.schema_tree.specs.Loaded.{IsLoaded, IsTarget}
use Rattle.schema_tree.specs.Sure.{IsSure, Known}
use Rattle.schema_tree.specs.Targets.{target_text}
use Rattle.demand.specs.Orders.{max_pairs}
use Rattle.proof_file.specs.Accepts.{AreAccepted, AreNumbers, setting_of, verdict_of}
use Rattle.proof_file.specs.Answers.{AreClaimed}
use Rattle.proof_file.specs.Text.{HasNoFeeds, IsKind, Keeps}
use Rattle.proof_file.specs.Views.{records_of}
use Rattle.proof_file.specs.declared.Proof.{Proof}
use Rattle.proof_file.specs.declared.Record.{Record}
use Rattle.proof_file.specs.declared.Section.{Section}
use Rattle.shape_map.specs.Selection.{max_associations}
use Rattle.shape_map.specs.declared.resolve.Association.{Association}
use Rattle.typing_refiner.specs.Evidence.{AreRenumbered, AreShownBy, HaveShapes, IsListed}
use Rattle.typing_refiner.specs.Evidence.{AreAccepted as AcceptsAll}

-- what the lines of a proof ask of an association: the term of its node can stand on one line, and the text of its target
-- holds no line feed
pub record HasLines (terms : List Term) (a : Association) : Type 0 where
  pub node : (t : Term) → slice_get terms a.node.0 ≡ Some t → HasOneLine t
  pub target : ¬ Contains (target_text a.target) 10

-- the answer can be claimed: its node is of the table, with a term that can stand on one line, its target is declared and has
-- a text without line feed, and it is the verdict on the target's expression
pub record CanBeClaimed (s : Schema) (terms : List Term) (verdicts : Known) (x : Answer) : Type 0 where
  pub node : x.node.0 < length terms
  pub line : (t : Term) → slice_get terms x.node.0 ≡ Some t → HasOneLine t
  pub clean : ¬ Contains (target_text x.target) 10
  pub expr : ExprId
  pub is_target : IsTarget s x.target expr
  pub sure : IsSure s terms verdicts x.node expr (verdict_of x.holds)

-- the numbers that a proof is made of are in range: each record is on one of at most 4,194,304 nodes, and these and those of
-- at most 1,000,000 answers are of the table
pub record AreInRange (terms : List Term) (nodes : List TermId) (sections : List Section) (answers : List Answer) : Type 0 where
  pub counted : (x : Section) (r : Record) → Contains sections x → Contains x.records r → r.node < length nodes
  pub recorded : (n : TermId) → Contains nodes n → n.0 < length terms
  pub answered : (x : Answer) → Contains answers x → x.node.0 < length terms
  pub few_nodes : length nodes ≤ max_pairs
  pub few_answers : length answers ≤ max_associations

-- a record of the proof is on the node
abbrev pub IsRecorded : List TermId → Proof → TermId → Type 0
IsRecorded nodes p n = (r : Record) × Contains (records_of p) r × (slice_get nodes r.node ≡ Some n)

-- an answer is about the node
abbrev pub IsAnswered : List Answer → TermId → Type 0
IsAnswered answers n = (x : Answer) × Contains answers x × (x.node ≡ n)

-- the node lines are those of the proof's records and of the answers
abbrev pub HasNoMoreNodes : List TermId → List Answer → Proof → Type 0
HasNoMoreNodes nodes answers p = (n : TermId) → Contains nodes n ↔ (IsRecorded nodes p n ⊎ IsAnswered answers n)

-- verdicts on at most 4,194,304 pairs of the table's nodes and the schema's Shapes, the sections of records that show them,
-- which are accepted and count these nodes in their order, and at most 1,000,000 answers by the verdicts
pub record AreShownFor (s : Schema) (terms : List Term) (g : List Triple) (f : List ℕ) (pairs : List Pair) (budget : ℕ) (verdicts : Known) (own : List TermId)
    (sections : List Section) (answers : List Answer) : Type 0 where
  pub loaded : IsLoaded s
  pub strata : IsStratum s f
  pub shapes : HaveShapes s pairs
  pub table : (p : Pair) → Contains pairs p → p.node.0 < length terms
  pub lines : (p : Pair) (t : Term) → Contains pairs p → slice_get terms p.node.0 ≡ Some t → HasOneLine t
  pub few_pairs : length pairs ≤ max_pairs
  pub shown : AreShownBy s terms g f pairs budget verdicts own sections
  pub sorted : IsStrictlySortedBy (compare_at terms) own
  pub kinds : (k : ℕ) (r : Record) → IsListed sections k r → IsKind r.kind
  pub records : AcceptsAll s terms g f pairs own sections
  pub claims : (x : Answer) → Contains answers x → CanBeClaimed s terms verdicts x
  pub few_answers : length answers ≤ max_associations

-- the sections, whose records count the nodes, are those of records that show the verdicts of refinement over the pairs
pub record AreRecordsOf (s : Schema) (terms : List Term) (g : List Triple) (f : List ℕ) (pairs : List Pair) (budget : ℕ) (nodes : List TermId) (sections : List Section) : Type 0 where
  pub verdicts : Known
  pub own : List TermId
  pub evidence : List Section
  pub shown : AreShownBy s terms g f pairs budget verdicts own evidence
  pub same : AreRenumbered own evidence nodes sections

-- the proof of answers, f giving the Shapes their strata: it keeps the orders and limits of a proof's text and holds no line
-- feed, it is accepted, its claims are the answers in their order, its records are those of refinement over the pairs, and its
-- node lines are the nodes of records and of answers
pub record IsProofOf (f : List ℕ) (s : Schema) (terms : List Term) (g : List Triple) (pairs : List Pair) (budget : ℕ) (answers : List Answer) (p : Proof) : Type 0 where
  pub keeps : Keeps p
  pub no_feeds : HasNoFeeds p
  pub nodes : List TermId
  pub numbers : AreNumbers terms p.nodes nodes
  pub accepted : AreAccepted (setting_of f s terms g nodes) p
  pub claims : AreClaimed nodes p.claims answers
  pub recorded : AreRecordsOf s terms g f pairs budget nodes p.sections
  pub lean : HasNoMoreNodes nodes answers p
