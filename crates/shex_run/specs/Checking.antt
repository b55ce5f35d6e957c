-- What the check of a proof finds.
use Rattle.std.specs.Prelude.{ℕ, List, ◌≡◌, ◌≤◌, Some, length, ⊤}
use Rattle.input_names.specs.Names.{Text}
use Rattle.shex_io.specs.Files.{Told, Holds}
use Rattle.rdf_terms.specs.Tables.{max_terms}
use Rattle.rdf_terms.specs.declared.terms.Term.{Term}
use Rattle.rdf_terms.specs.declared.terms.TermId.{TermId}
use Rattle.schema_tree.specs.declared.schema.Answer.{Answer}
use Rattle.schema_tree.specs.declared.schema.Pair.{Pair}
use Rattle.schema_tree.specs.Typings.{HoldsEnds}
use Rattle.proof_file.specs.declared.Proof.{Proof}
use Rattle.proof_file.specs.declared.Why.{Why}
use Rattle.proof_file.specs.Laws.{HoldsLines, IsTrueProof}
use Rattle.proof_file.specs.Text.{IsFault}
use Rattle.proof_checker.specs.declared.checking.CheckError.{CheckError}
use Rattle.proof_checker.specs.declared.checking.CheckError.TheVariants as CheckErrors
use Rattle.proof_checker.specs.Checks.{IsFullFor, IsRejectedFor, IsStaleFor, IsUnstratified}
use Rattle.shape_map.specs.Results.{result_text}
use Rattle.schema_tree.specs.Truths.{IsTypingOf}
use Rattle.command_words.specs.Asked.{Command}
use Rattle.shex_inputs.specs.Held.{Held, IsTaken}
use Rattle.shex_run.specs.declared.stop.Refusal.TheVariants as Refusals
use Rattle.shex_run.specs.declared.stop.Stop.{Stop}
use Rattle.shex_run.specs.declared.stop.Stop.TheVariants as Stops
use Rattle.shex_run.specs.Proofs.{Accepted}
use Rattle.shex_run.specs.Tasks.{IsToCheck, inputs_of}

-- what the proof says is true of the complete typing over each list of terms that holds the ends of the graph and the node
-- lines, and there is a complete typing over every list (ShEx 2.1, section 5.2)
pub record IsTrueOf (h : Held) (terms : List Term) (nodes : List TermId) (p : Proof) : Type 0 where
  pub exists : (U : List TermId) → (f : List ℕ) × (T : List Pair) × IsTypingOf h.schema terms h.graph f U T
  pub true_of : (f : List ℕ) (U : List TermId) (T : List Pair) → HoldsEnds U h.graph → HoldsLines U terms p.nodes → IsTypingOf h.schema terms h.graph f U T → IsTrueProof h.schema terms nodes T p

-- the command is to check a proof, whose file holds these bytes, for the schema and the graph that the files hold; it is `check` or
-- `upgrade`
pub record IsGiven (told : Told) (c : Command) (h : Held) (bytes : List ℕ) : Type 0 where
  pub taken : IsTaken told (inputs_of c) h
  pub name : Text
  pub task : IsToCheck c name
  pub held : Holds told name (Some bytes)

-- the bytes are accepted and true, and the text is the result map of their claims
pub record Confirms (h : Held) (bytes text : List ℕ) : Type 0 where
  pub terms : List Term
  pub answers : List Answer
  pub accepted : Accepted h bytes terms answers
  pub truth : IsTrueOf h terms accepted.found.found.nodes accepted.found.found.proof
  pub text_is : text ≡ result_text terms answers

-- the proof's file holds such bytes
pub record IsCheckedAs (told : Told) (c : Command) (text : List ℕ) : Type 0 where
  pub held : Held
  pub bytes : List ℕ
  pub given : IsGiven told c held bytes
  pub confirmed : Confirms held bytes text

-- the bytes are the text of a proof that is current for the files, and rejected by this check of the item i, by the strata that it
-- uses, and the table can hold the terms
pub record IsItemRejected (h : Held) (bytes : List ℕ) (i : ℕ) (w : Why) : Type 0 where
  pub terms : List Term
  pub found : IsRejectedFor h.schema h.files h.terms terms h.graph bytes i w
  pub few : length terms ≤ max_terms

-- the bytes are rejected for this cause: they are the text of no proof, or of one that names other files, or of one whose strata are
-- no stratification of the schema, or an item is not accepted
abbrev pub Rejects : Held → List ℕ → CheckError → Type 0
Rejects h bytes (CheckErrors.Syntax at) = IsFault bytes at
Rejects h bytes (CheckErrors.Stale part) = IsStaleFor h.files bytes part
Rejects h bytes CheckErrors.Strata = IsUnstratified h.schema h.files bytes
Rejects h bytes (CheckErrors.Rejected i w) = IsItemRejected h bytes i w
Rejects h bytes CheckErrors.Full = ⊥
Rejects h bytes CheckErrors.Memory = ⊥

-- the proof's file holds bytes that are rejected for this cause
abbrev pub IsRejected : Told → Command → CheckError → Type 0
IsRejected told c error = (h : Held) × (bytes : List ℕ) × IsGiven told c h bytes × Rejects h bytes error

-- the proof's file holds a proof that is current for the files, and whose node lines the table cannot take up
abbrev pub IsFull : Told → Command → Type 0
IsFull told c = (h : Held) × (bytes : List ℕ) × IsGiven told c h bytes × IsFullFor h.schema h.files h.terms bytes

-- the bytes are refused for this cause: they are rejected, or the table cannot take up the node lines
abbrev pub Refuses : Held → List ℕ → CheckError → Type 0
Refuses h bytes CheckErrors.Full = IsFullFor h.schema h.files h.terms bytes
Refuses h bytes error = Rejects h bytes error

-- why the bytes are not confirmed
abbrev pub ConfirmStops : Held → List ℕ → Stop → Type 0
ConfirmStops h bytes (Stops.Refused (Refusals.Input refusal)) = ⊥
ConfirmStops h bytes (Stops.Refused (Refusals.Proof error)) = Refuses h bytes error
ConfirmStops h bytes (Stops.Failed file) = ⊥
ConfirmStops h bytes Stops.Memory = ⊤
