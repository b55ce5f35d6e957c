-- Laws of acceptance, which functions with empty bodies claim.
use Rattle.std.specs.Prelude.{ℕ, Bool, true, false, List, length, ◌≡◌, ◌≤◌, Some, Contains, slice_get}
use Rattle.rdf_terms.specs.declared.terms.TermId.{TermId}
use Rattle.rdf_terms.specs.declared.terms.Term.{Term}
use Rattle.rdf_terms.specs.declared.terms.Triple.{Triple}
use Rattle.schema_tree.specs.declared.schema.Schema.{Schema}
use Rattle.schema_tree.specs.declared.schema.ExprId.{ExprId}
use Rattle.schema_tree.specs.declared.schema.Pair.{Pair}
use Rattle.schema_tree.specs.Satisfies.{Sat}
use Rattle.schema_tree.specs.Typings.{IsTheTyping}
use Rattle.schema_tree.specs.Loaded.{IsLoaded, IsTarget}
use Rattle.proof_file.specs.declared.Claim.{Claim}
use Rattle.proof_file.specs.declared.Proof.{Proof}
use Rattle.proof_file.specs.declared.Why.{Why}
use Rattle.proof_file.specs.Views.{Refuted, yes_pairs, no_pairs, records_of}
use Rattle.std.specs.List.{AllByRecursion}
use Rattle.proof_file.specs.Accepts.{Accepts, AreAccepted, IsRejected, Setting}
use Rattle.proof_file.specs.Text.{Keeps, IsUnicode, HasNoFeeds, ProofText, lines_of, text_of}

-- U has each number whose term is a node line
abbrev pub HoldsLines : List TermId → List Term → List Term → Type 0
HoldsLines U terms lines = (n : TermId) (t : Term) → Contains lines t → slice_get terms n.0 ≡ Some t → Contains U n

-- what a claim says
abbrev pub Says : Bool → Type 0 → Type 0
Says true A = A
Says false A = ¬ A

-- the claim is true of the typing T: its node has a line, its target is declared, and the node satisfies it or not as claimed
pub record IsTrueClaim (s : Schema) (terms : List Term) (nodes : List TermId) (T : List Pair) (c : Claim) : Type 0 where
  pub node : TermId
  pub is_node : slice_get nodes c.node ≡ Some node
  pub expr : ExprId
  pub is_target : IsTarget s c.target expr
  pub says : Says c.holds (Sat s terms T node expr)

-- what the proof says is true of the typing T: it has each confirmed pair and no refuted one, and each claim is true of it
pub record IsTrueProof (s : Schema) (terms : List Term) (nodes : List TermId) (T : List Pair) (p : Proof) : Type 0 where
  pub ins : (q : Pair) → Contains (yes_pairs nodes (records_of p)) q → Contains T q
  pub outs : (q : Refuted) → Contains (no_pairs nodes (records_of p)) q → ¬ Contains T q.pair
  pub claims : (c : Claim) → Contains p.claims c → IsTrueClaim s terms nodes T c

-- what is accepted is true of every complete typing over terms that hold the node lines
abbrev pub Soundness : Type 0
Soundness =
    (f : List ℕ) (s : Schema) (terms : List Term) (g : List Triple) (p : Proof) → IsLoaded s → (accepted : Accepts f s terms g p) →
    (U : List TermId) → HoldsLines U terms p.nodes → (T : List Pair) → IsTheTyping s terms g f U T →
    IsTrueProof s terms accepted.nodes T p

-- what is rejected is not accepted, and a rejection names one item and one check
abbrev pub OneRejection : Type 0
OneRejection =
    (x : Setting) (p : Proof) (i : ℕ) (v : Why) → IsRejected x p i v →
    (¬ AreAccepted x p) × ((j : ℕ) (w : Why) → IsRejected x p j w → (i ≡ j) × (v ≡ w))

-- a proof that keeps the orders and limits, and in which no text of a term or target holds a line feed, has one text
abbrev pub ProofsHaveTexts : Type 0
ProofsHaveTexts =
    (p : Proof) → Keeps p → AllByRecursion IsUnicode (lines_of p) → HasNoFeeds p → ProofText p (text_of p) × ((bytes : List ℕ) → ProofText p bytes → bytes ≡ text_of p)

-- no two proofs have the same text
abbrev pub ProofTextsAreDistinct : Type 0
ProofTextsAreDistinct = (p q : Proof) (bytes : List ℕ) → ProofText p bytes → ProofText q bytes → p ≡ q

-- a proof has at most as many lines as its text has bytes
abbrev pub LinesAreFew : Type 0
LinesAreFew = (p : Proof) (bytes : List ℕ) → ProofText p bytes → length (lines_of p) ≤ length bytes
