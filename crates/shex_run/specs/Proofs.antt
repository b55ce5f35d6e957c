-- The answers that are due, their proof, and how it is stored.
use Rattle.std.specs.Prelude.{ℕ, List, ◌≡◌, ◌≤◌, Option, Some, None, length}
use Rattle.input_names.specs.Names.{Text}
use Rattle.shex_io.specs.Files.{Told, Holds, KeepsOthers}
use Rattle.rdf_terms.specs.Tables.{max_terms}
use Rattle.rdf_terms.specs.declared.terms.Term.{Term}
use Rattle.schema_tree.specs.declared.schema.Answer.{Answer}
use Rattle.schema_tree.specs.Edges.{IsStratum}
use Rattle.proof_file.specs.declared.head.Head.{Head}
use Rattle.proof_checker.specs.Checks.{IsAcceptedFor}
use Rattle.command_words.specs.Asked.{Command}
use Rattle.shex_inputs.specs.Asked.{IsAskedOf, Question}
use Rattle.shex_inputs.specs.Held.{Held}
use Rattle.schema_tree.specs.Removal.{IsRefined}
use Rattle.schema_tree.specs.Sure.{Known}
use Rattle.typing_answers.specs.Proofs.{AreRecordsOf, HasNoMoreNodes}
use Rattle.typing_answers.specs.Replies.{AreReplies}
use Rattle.shex_run.specs.Tasks.{IsToValidate, inputs_of}

-- the bytes are the text of a proof that is current for the files, and accepted for the schema and the graph by the strata that it
-- uses, the table, which can hold them, has these terms once it has taken up the proof's node lines, and the answers are the proof's
-- claims
pub record Accepted (h : Held) (bytes : List ℕ) (terms : List Term) (answers : List Answer) : Type 0 where
  pub found : IsAcceptedFor h.schema h.files h.terms terms h.graph bytes answers
  pub few : length terms ≤ max_terms

-- the files hold this question for the command, and these are its true answers: the associations' nodes and targets in their
-- order, each with whether the complete typing satisfies its expression there (ShEx 2.1, section 5.2). Those are left out on which the
-- verdicts of refinement over the pairs that are asked for, under the budget, are Unknown
pub record AreAnswers (told : Told) (c : Command) (q : Question) (budget : ℕ) (answers : List Answer) : Type 0 where
  pub asked : IsAskedOf told (inputs_of c) q
  pub verdicts : Known
  pub refined : IsRefined q.held.schema q.terms q.held.graph q.held.strata q.pairs budget verdicts
  pub replies : AreReplies q.held.schema q.terms verdicts q.held.graph budget q.associations answers

-- the bytes are a proof whose claims are the answers, so that a check of them with the same files accepts them. It names these files
-- and brings the strata of the schema, its records are those of refinement over the pairs that are asked for, and it has no other
-- node lines than those of its records and claims
pub record IsStoredProofOf (q : Question) (budget : ℕ) (answers : List Answer) (bytes : List ℕ) : Type 0 where
  pub accepted : Accepted q.held bytes q.terms answers
  pub head : Head
  pub is_head : accepted.found.found.proof.head ≡ Some head
  pub files : head.files ≡ q.held.files
  pub least : IsStratum q.held.schema head.strata
  pub recorded : AreRecordsOf q.held.schema q.terms q.held.graph q.held.strata q.pairs budget accepted.found.found.nodes accepted.found.found.proof.sections
  pub lean : HasNoMoreNodes accepted.found.found.nodes answers accepted.found.found.proof

-- where a name is given, it holds some bytes of which P is true, as far as is told, and each other name what it held; where
-- none is given, each name holds what it held
abbrev pub Stores : Told → Told → Option Text → (List ℕ → Type 0) → Type 0
Stores told after None P = after ≡ told
Stores told after (Some name) P = (bytes : List ℕ) × P bytes × Holds after name (Some bytes) × KeepsOthers told after name

-- the command is to validate and to store a proof under this name, and the bytes are a proof of the true answers
pub record IsDueProof (told : Told) (c : Command) (name : Text) (bytes : List ℕ) : Type 0 where
  pub map_name : Text
  pub budget : ℕ
  pub task : IsToValidate c map_name (Some name) budget
  pub question : Question
  pub answers : List Answer
  pub are_answers : AreAnswers told c question budget answers
  pub proof : IsStoredProofOf question budget answers bytes
