-- When a proof is accepted, and which check of which item is the first that fails (own).
use Rattle.std.specs.Prelude.{ℕ, Bool, true, false, List, [], ◌∷◌, ◌++◌, ◌<◌, ◌≤◌, ◌≡◌, ◌⊎◌, length, map, take, Option, Some, None, Contains, ⊤, slice_get, slice_index}
use Rattle.std.specs.List.{AllByRecursion, flat_map}
use Rattle.rdf_terms.specs.declared.terms.TermId.{TermId}
use Rattle.rdf_terms.specs.declared.terms.Term.{Term}
use Rattle.rdf_terms.specs.declared.terms.Triple.{Triple}
use Rattle.schema_tree.specs.declared.schema.Schema.{Schema}
use Rattle.schema_tree.specs.declared.schema.Shape.{Shape}
use Rattle.schema_tree.specs.declared.schema.ExprId.{ExprId}
use Rattle.schema_tree.specs.declared.schema.Pair.{Pair}
use Rattle.schema_tree.specs.declared.verdicts.Place.{Place}
use Rattle.schema_tree.specs.declared.verdicts.State.{State}
use Rattle.schema_tree.specs.declared.verdicts.Verdict.{Verdict}
use Rattle.schema_tree.specs.declared.verdicts.Verdict.TheVariants.{Yes, No}
use Rattle.schema_tree.specs.declared.verdicts.Lean.TheVariants.{Possible, Impossible}
use Rattle.schema_tree.specs.Edges.{level}
use Rattle.schema_tree.specs.Sure.{IsSure}
use Rattle.schema_tree.specs.Loaded.{IsTarget}
use Rattle.schema_tree.specs.Relevant.{relevant_in_order}
use Rattle.schema_tree.specs.Places.{MayHold, MayFail, AreAllowed, HaveCounts, times, IsShut}
use Rattle.schema_tree.specs.States.{AreClosed, IsCovered, opening}
use Rattle.proof_file.specs.declared.RecordKind.{RecordKind}
use Rattle.proof_file.specs.declared.RecordKind.TheVariants.{Plus, Minus}
use Rattle.proof_file.specs.declared.Record.{Record}
use Rattle.proof_file.specs.declared.Claim.{Claim}
use Rattle.proof_file.specs.declared.Proof.{Proof}
use Rattle.proof_file.specs.declared.Why.{Why}
use Rattle.proof_file.specs.declared.Why.TheVariants as Whys
use Rattle.proof_file.specs.Views.{Refuted, records_of, yes_pairs, no_pairs, plus_view, minus_view, whole_view}

-- what a proof is held against: the schema, the terms of the table, the graph, a number for each Shape, and the place in
-- the table of each node line's term
pub record Setting : Type 0 where
  pub schema : Schema
  pub terms : List Term
  pub graph : List Triple
  pub strata : List ℕ
  pub nodes : List TermId

-- what a record is checked against, from its parts
abbrev pub setting_of : List ℕ → Schema → List Term → List Triple → List TermId → Setting
setting_of f s terms g nodes = record { schema = s; terms = terms; graph = g; strata = f; nodes = nodes }

-- a record with the stratum of its section, or a claim
pub data Item : Type 0 where
  in_section : ℕ → Record → Item
  is_claim : Claim → Item

-- the records and then the claims, in their order
abbrev pub items_of : Proof → List Item
items_of p = flat_map (λ x. map (λ r. in_section x.stratum r) x.records) p.sections ++ map (λ c. is_claim c) p.claims

-- the states show that no allowed places match: they are closed, no count is above the number of triples, and the opening
-- state is listed or dead
pub record AreStates (hold fail : TermId → Option ExprId → Type 0) (sh : Shape) (n : TermId) (ts : List Triple) (states : List State) : Type 0 where
  pub closed : AreClosed hold fail sh n ts states
  pub counted : (x : State) → Contains states x → (i : ℕ) → slice_index x.counts i ≤ length ts
  pub opened : IsCovered sh n ts states (opening sh)

abbrev pub verdict_of : Bool → Verdict
verdict_of true = Yes
verdict_of false = No

-- the checks of a record of this kind that come last, in their order
abbrev pub kind_checks : RecordKind → List Why
kind_checks (Plus places) = Whys.Places ∷ Whys.Value ∷ Whys.Counts ∷ []
kind_checks (Minus rank states) = Whys.States ∷ []

-- the checks of an item, in their order
abbrev pub checks_of : Item → List Why
checks_of (in_section k r) = Whys.Node ∷ Whys.Shape ∷ Whys.Stratum ∷ kind_checks r.kind
checks_of (is_claim c) = Whys.Node ∷ Whys.Claim ∷ []

-- w is the first of the checks that fails
abbrev pub FailsAt : (Why → Type 0) → List Why → Why → Type 0
FailsAt P [] w = ⊥
FailsAt P (v ∷ vs) w = ((v ≡ w) × (¬ P v)) ⊎ (P v × FailsAt P vs w)

module _ (x : Setting) (p : Proof) where
  abbrev pub yes_of : List Pair
  yes_of = yes_pairs x.nodes (records_of p)

  abbrev pub no_of : List Refuted
  no_of = no_pairs x.nodes (records_of p)

  -- the checks of a record that confirms, on the stratum k
  abbrev pub PassesPlus : ℕ → TermId → Shape → List Place → Why → Type 0
  PassesPlus k n sh places Whys.Places =
      (¬ IsShut x.graph sh n) × AreAllowed (λ m v. ⊤) (λ m v. ⊤) sh n (relevant_in_order x.terms x.graph sh n) places
  PassesPlus k n sh places Whys.Value =
      AreAllowed
      (MayHold x.schema x.terms (plus_view x.strata yes_of no_of k) Impossible)
      (MayFail x.schema x.terms (plus_view x.strata yes_of no_of k) Impossible)
      sh n (relevant_in_order x.terms x.graph sh n) places
  PassesPlus k n sh places Whys.Counts = HaveCounts sh.body (times places)
  PassesPlus k n sh places w = ⊥

  -- the check of a record that refutes, on the stratum k
  abbrev pub PassesMinus : ℕ → TermId → Shape → ℕ → List State → Why → Type 0
  PassesMinus k n sh rank states Whys.States =
      IsShut x.graph sh n
      ⊎ AreStates
      (MayHold x.schema x.terms (minus_view x.strata yes_of no_of k rank) Possible)
      (MayFail x.schema x.terms (minus_view x.strata yes_of no_of k rank) Possible)
      sh n (relevant_in_order x.terms x.graph sh n) states
  PassesMinus k n sh rank states w = ⊥

  -- the check of a record of either kind, on the stratum k, of a node and a Shape that need not be there
  abbrev pub PassesKind : ℕ → RecordKind → Option TermId → Option Shape → Why → Type 0
  PassesKind k (Plus places) (Some n) (Some sh) w = PassesPlus k n sh places w
  PassesKind k (Minus rank states) (Some n) (Some sh) w = PassesMinus k n sh rank states w
  PassesKind k kind n sh w = ⊥

  -- the checks of a record in the section of the stratum k
  abbrev pub PassesRecord : ℕ → Record → Why → Type 0
  PassesRecord k r Whys.Node = r.node < length x.nodes
  PassesRecord k r Whys.Shape = r.shape < length x.schema.shapes
  PassesRecord k r Whys.Stratum = level x.strata (record { 0 = r.shape }) ≡ k
  PassesRecord k r w = PassesKind k r.kind (slice_get x.nodes r.node) (slice_get x.schema.shapes r.shape) w

  -- the target is declared, and its expression has the claimed verdict at the node by all records
  abbrev pub PassesClaim : Claim → Option TermId → Type 0
  PassesClaim c None = ⊥
  PassesClaim c (Some n) =
      (e : ExprId) × IsTarget x.schema c.target e × IsSure x.schema x.terms (whole_view yes_of no_of) n e (verdict_of c.holds)

  -- the item passes the check
  abbrev pub Passes : Item → Why → Type 0
  Passes (in_section k r) w = PassesRecord k r w
  Passes (is_claim c) Whys.Node = c.node < length x.nodes
  Passes (is_claim c) w = PassesClaim c (slice_get x.nodes c.node)

  -- the item passes all its checks
  abbrev pub IsAccepted : Item → Type 0
  IsAccepted item = AllByRecursion (Passes item) (checks_of item)

  abbrev pub AreAccepted : Type 0
  AreAccepted = AllByRecursion IsAccepted (items_of p)

  abbrev pub FailsBy : Option Item → Why → Type 0
  FailsBy None w = ⊥
  FailsBy (Some item) w = FailsAt (Passes item) (checks_of item) w

  -- the item of number i is the first that is not accepted, and w its first check that fails
  abbrev pub IsRejected : ℕ → Why → Type 0
  IsRejected i w = AllByRecursion IsAccepted (take i (items_of p)) × FailsBy (slice_get (items_of p) i) w

-- the numbers are the places of the lines' terms in the table
abbrev pub AreNumbers : List Term → List Term → List TermId → Type 0
AreNumbers terms lines nodes = map (λ i. slice_get terms i.0) nodes ≡ map (λ t. Some t) lines

-- the proof is accepted; f gives the Shapes their strata, and terms are a table that holds the terms of the node lines
pub record Accepts (f : List ℕ) (s : Schema) (terms : List Term) (g : List Triple) (p : Proof) : Type 0 where
  pub nodes : List TermId
  pub numbers : AreNumbers terms p.nodes nodes
  pub items : AreAccepted (setting_of f s terms g nodes) p
