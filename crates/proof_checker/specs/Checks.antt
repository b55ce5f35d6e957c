-- What a check of bytes that are given as a proof finds (own).
use Rattle.std.specs.Prelude.{ℕ, List, [], ◌∷◌, ◌≡◌, ◌<◌, length, Some, Contains, slice_get, ⊤}
use Rattle.lists.specs.Distinct.{AreDistinct}
use Rattle.lists.specs.Additions.{Adds}
use Rattle.rdf_terms.specs.Tables.{max_terms}
use Rattle.rdf_terms.specs.declared.terms.TermId.{TermId}
use Rattle.rdf_terms.specs.declared.terms.Term.{Term}
use Rattle.rdf_terms.specs.declared.terms.Triple.{Triple}
use Rattle.schema_tree.specs.declared.schema.Schema.{Schema}
use Rattle.schema_tree.specs.declared.schema.Answer.{Answer}
use Rattle.schema_tree.specs.declared.schema.ExprId.{ExprId}
use Rattle.schema_tree.specs.declared.schema.Pair.{Pair}
use Rattle.schema_tree.specs.Edges.{IsStratified, IsStratum}
use Rattle.schema_tree.specs.Loaded.{IsTarget}
use Rattle.schema_tree.specs.Satisfies.{Sat}
use Rattle.schema_tree.specs.Typings.{HoldsEnds, IsTheTyping}
use Rattle.proof_file.specs.declared.Proof.{Proof}
use Rattle.proof_file.specs.declared.Why.{Why}
use Rattle.proof_file.specs.declared.head.Digests.{Digests}
use Rattle.proof_file.specs.declared.head.Head.{Head}
use Rattle.proof_file.specs.declared.head.Part.{Part}
use Rattle.proof_file.specs.Accepts.{AreNumbers, AreAccepted, IsRejected, setting_of}
use Rattle.proof_file.specs.Answers.{AreClaimed}
use Rattle.proof_file.specs.Laws.{HoldsLines, IsTrueProof, Says}
use Rattle.proof_file.specs.Text.{ProofText, IsFault}
use Rattle.proof_checker.specs.declared.checking.CheckError.{CheckError}
use Rattle.proof_checker.specs.declared.checking.CheckError.TheVariants.{Syntax, Stale, Strata, Full, Rejected, Memory}
use Rattle.proof_checker.specs.Current.{AreUsed, IsCurrent, IsStale}

-- the table after the terms are put into it, one after another
abbrev pub TakesUp : List Term → List Term → List Term → Type 0
TakesUp old [] new = new ≡ old
TakesUp old (t ∷ ts) new = (mid : List Term) × Adds old t mid × TakesUp mid ts new

-- no table with at most as many terms as a table can hold has the terms of the old one at their places and these
abbrev pub CannotTake : List Term → List Term → Type 0
CannotTake old lines =
    (new : List Term) → AreDistinct new → ((i : ℕ) (t : Term) → slice_get old i ≡ Some t → slice_get new i ≡ Some t) →
    ((t : Term) → Contains lines t → Contains new t) → max_terms < length new

-- the bytes are the text of a proof, whose node lines' terms the table takes up and has under these numbers
pub record IsReadAs (old terms : List Term) (bytes : List ℕ) (p : Proof) (nodes : List TermId) : Type 0 where
  pub text : ProofText p bytes
  pub table : TakesUp old p.nodes terms
  pub numbers : AreNumbers terms p.nodes nodes

-- the bytes are the text of a proof that is accepted by these strata, and the answers are its claims
pub record IsAcceptedAs (f : List ℕ) (s : Schema) (old terms : List Term) (g : List Triple) (bytes : List ℕ) (answers : List Answer) : Type 0 where
  pub proof : Proof
  pub nodes : List TermId
  pub read : IsReadAs old terms bytes proof nodes
  pub accepted : AreAccepted (setting_of f s terms g nodes) proof
  pub claims : AreClaimed nodes proof.claims answers

-- the bytes are the text of a proof that is current for the files and accepted by the strata that it uses, and the answers are
-- its claims
pub record IsAcceptedFor (s : Schema) (files : Digests) (old terms : List Term) (g : List Triple) (bytes : List ℕ) (answers : List Answer) : Type 0 where
  pub strata : List ℕ
  pub found : IsAcceptedAs strata s old terms g bytes answers
  pub current : IsCurrent s files found.proof.head
  pub used : AreUsed s found.proof.head strata

-- the answer is true of the typing T: its target is declared, and its node satisfies the target's expression or not, as answered
pub record IsTrueAnswer (s : Schema) (terms : List Term) (T : List Pair) (a : Answer) : Type 0 where
  pub expr : ExprId
  pub is_target : IsTarget s a.target expr
  pub says : Says a.holds (Sat s terms T a.node expr)

-- the bytes are the text of a proof of which each record and each claim is true of every complete typing of the schema over
-- terms that hold its node lines and the ends of the graph, and so is each of the answers
pub record IsTrueAs (s : Schema) (old terms : List Term) (g : List Triple) (bytes : List ℕ) (answers : List Answer) : Type 0 where
  pub proof : Proof
  pub nodes : List TermId
  pub read : IsReadAs old terms bytes proof nodes
  pub truth : (f : List ℕ) (U : List TermId) (T : List Pair) → IsStratum s f → HoldsLines U terms proof.nodes → HoldsEnds U g → IsTheTyping s terms g f U T → IsTrueProof s terms nodes T proof
  pub replies : (f : List ℕ) (U : List TermId) (T : List Pair) → IsStratum s f → HoldsLines U terms proof.nodes → HoldsEnds U g → IsTheTyping s terms g f U T →
      (a : Answer) → Contains answers a → IsTrueAnswer s terms T a

-- the bytes are the text of a proof that names other files than these, and this part is the first whose digests differ
pub record IsStaleFor (files : Digests) (bytes : List ℕ) (part : Part) : Type 0 where
  pub proof : Proof
  pub text : ProofText proof bytes
  pub head : Head
  pub is_head : proof.head ≡ Some head
  pub stale : IsStale head.files files part

-- the bytes are the text of a proof that names these files and brings strata that are no stratification
pub record IsUnstratified (s : Schema) (files : Digests) (bytes : List ℕ) : Type 0 where
  pub proof : Proof
  pub text : ProofText proof bytes
  pub head : Head
  pub is_head : proof.head ≡ Some head
  pub same : head.files ≡ files
  pub rises : ¬ IsStratified s head.strata

-- the bytes are the text of a proof that is current, and the table cannot take up its node lines
pub record IsFullFor (s : Schema) (files : Digests) (old : List Term) (bytes : List ℕ) : Type 0 where
  pub proof : Proof
  pub text : ProofText proof bytes
  pub current : IsCurrent s files proof.head
  pub full : CannotTake old proof.nodes

-- the bytes are the text of a proof whose item i is the first that is not accepted by these strata, by the check w
pub record IsRejectedAs (f : List ℕ) (s : Schema) (old terms : List Term) (g : List Triple) (bytes : List ℕ) (i : ℕ) (w : Why) : Type 0 where
  pub proof : Proof
  pub nodes : List TermId
  pub read : IsReadAs old terms bytes proof nodes
  pub rejected : IsRejected (setting_of f s terms g nodes) proof i w

-- the bytes are the text of a proof that is current for the files, and by the strata that it uses item i is the first that is
-- not accepted, by the check w
pub record IsRejectedFor (s : Schema) (files : Digests) (old terms : List Term) (g : List Triple) (bytes : List ℕ) (i : ℕ) (w : Why) : Type 0 where
  pub strata : List ℕ
  pub found : IsRejectedAs strata s old terms g bytes i w
  pub current : IsCurrent s files found.proof.head
  pub used : AreUsed s found.proof.head strata

-- why bytes are not accepted
abbrev pub FailsAs : Schema → Digests → List Term → List Term → List Triple → List ℕ → CheckError → Type 0
FailsAs s files old terms g bytes (Syntax at) = IsFault bytes at
FailsAs s files old terms g bytes (Stale part) = IsStaleFor files bytes part
FailsAs s files old terms g bytes Strata = IsUnstratified s files bytes
FailsAs s files old terms g bytes Full = IsFullFor s files old bytes
FailsAs s files old terms g bytes (Rejected i w) = IsRejectedFor s files old terms g bytes i w
FailsAs s files old terms g bytes Memory = ⊤

-- the new table has the terms of the old one at their places
abbrev pub KeepsTerms : List Term → List Term → Type 0
KeepsTerms old new = (i : ℕ) (t : Term) → slice_get old i ≡ Some t → slice_get new i ≡ Some t
