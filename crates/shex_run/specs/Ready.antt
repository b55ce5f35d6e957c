-- What the functions that answer promise one another.
use Rattle.std.specs.Prelude.{ℕ, Bool, true, List, All, Contains, Option, Some, None, ◌≡◌, ◌≤◌, IfSome, if◌then◌else◌, is_some, length, map, slice_get}
use Rattle.std.specs.List.{AllByRecursion}
use Rattle.rdf_terms.specs.OneLine.{HasOneLine}
use Rattle.rdf_terms.specs.declared.terms.Term.{Term}
use Rattle.rdf_terms.specs.declared.terms.TermId.{TermId}
use Rattle.rdf_terms.specs.declared.terms.Triple.{Triple}
use Rattle.shex_io.specs.Files.{Told}
use Rattle.graph_index.specs.Contents.{IsSealedWith}
use Rattle.graph_index.specs.Laws.{IsOfTable}
use Rattle.schema_tree.specs.declared.schema.Answer.{Answer}
use Rattle.schema_tree.specs.Loaded.{IsLoaded}
use Rattle.proof_file.specs.declared.Proof.{Proof}
use Rattle.proof_file.specs.declared.head.Head.{Head}
use Rattle.proof_file.specs.Text.{HasNoFeeds, IsLine, Keeps, ProofText, head_lines}
use Rattle.shape_map.specs.declared.resolve.Association.{Association}
use Rattle.shape_map.specs.Results.{result_text}
use Rattle.shape_map.specs.Selection.{max_associations}
use Rattle.command_words.specs.Asked.{Command}
use Rattle.command_words.specs.declared.command.Command.{Command as LentCommand}
use Rattle.command_words.specs.declared.command.Command.TheVariants as Lent
use Rattle.shex_inputs.specs.declared.holding.Holding.{Holding}
use Rattle.shex_drill.specs.Files.{drill_contents}
use Rattle.shex_inputs.specs.Asked.{IsAskedOf, Question, root_of}
use Rattle.shex_inputs.specs.Held.{Held}
use Rattle.shape_map.specs.Answers.{IsAsked}
use Rattle.typing_answers.specs.Proofs.{HasLines, IsProofOf as Proves}
use Rattle.typing_answers.specs.Replies.{AreReplies}
use Rattle.typing_refiner.specs.declared.building.WidePair.{WidePair}
use Rattle.demand.specs.Demand.{AreAsked}
use Rattle.demand.specs.Orders.{max_pairs}
use Rattle.command_words.specs.Drills.{max_items}
use Rattle.command_words.specs.Requests.{default_budget, max_budget}
use Rattle.schema_tree.specs.declared.schema.Pair.{Pair}
use Rattle.schema_tree.specs.Edges.{IsStratum}
use Rattle.schema_tree.specs.Needs.{HoldNeeds}
use Rattle.schema_tree.specs.Removal.{IsRefined}
use Rattle.schema_tree.specs.Sure.{Known}
use Rattle.shex_run.specs.declared.deciding.Decided.{Decided}
use Rattle.shex_run.specs.Drills.{AreDrillAnswers, drill_command, drill_line}
use Rattle.shex_run.specs.Proofs.{AreAnswers, IsStoredProofOf}
use Rattle.shex_run.specs.Statuses.{IsAnswering, status_of}
use Rattle.shex_run.specs.Tasks.{inputs_of}
use Rattle.shex_run.specs.Texts.{notes_by, notes_of}
use Rattle.wide_pairs.specs.Wide.{AreWide}

-- the term of the node can stand on one line
abbrev pub IsOnLine : List Term → TermId → Type 0
IsOnLine terms n = (t : Term) → slice_get terms n.0 ≡ Some t → HasOneLine t

-- so can the terms of the ends of each triple
abbrev pub AreOnLines : List Term → List Triple → Type 0
AreOnLines terms graph = (t : Triple) → Contains graph t → IsOnLine terms t.s × IsOnLine terms t.o

-- the head of a proof over what is held: the digests of its files, and the strata of its Shapes
abbrev pub head_of : Held → Head
head_of h = record { files = h.files; strata = h.strata }

-- the head of a proof over what is held, if one is wanted
abbrev pub head_if : Bool → Held → Option Head
head_if wanted h = if wanted then Some (head_of h) else None

-- the command stores a proof or checks one
abbrev pub has_proof : LentCommand → Bool
has_proof (Lent.Validate v) = is_some v.proof
has_proof (Lent.Check k) = true
has_proof (Lent.Upgrade u) = true

-- the associations can be answered over the schema, the table and the graph, by the pairs that they reach, and their proof can have
-- this head, if it is one
pub record IsReady (h : Holding) (associations : List Association) (pairs : List Pair) (budget : ℕ) (head : Option Head) : Type 0 where
  pub within : budget ≤ max_budget
  pub loaded : IsLoaded h.schema
  pub strata : IsStratum h.schema h.strata
  pub sealed : IsSealedWith h.terms h.graph
  pub of_table : All (IsOfTable h.terms) h.graph.triples
  pub asked : All (IsAsked h.schema h.terms) associations
  pub few : length associations ≤ max_associations
  pub reached : AreAsked h.schema h.terms h.graph.triples (map root_of associations) pairs
  pub needs : HoldNeeds h.schema h.graph.triples pairs
  pub few_pairs : length pairs ≤ max_pairs
  pub lines : All (HasLines h.terms) associations
  pub ends : AreOnLines h.terms h.graph.triples
  pub headed : AllByRecursion IsLine (head_lines head)

-- the answers are those by the verdicts of refinement, their status, text and notes are these, and so is their proof, which
-- is there exactly where there is a head, and has it
pub record IsDecided (h : Holding) (associations : List Association) (pairs : List Pair) (budget : ℕ) (head : Option Head) (d : Decided) : Type 0 where
  pub verdicts : Known
  pub refined : IsRefined h.schema h.terms h.graph.triples h.strata pairs budget verdicts
  pub answers : List Answer
  pub given : d.answers.items ≡ answers
  pub replies : AreReplies h.schema h.terms verdicts h.graph.triples budget associations answers
  pub proof : IfSome d.proof (Proves h.strata h.schema h.terms h.graph.triples pairs budget answers)
  pub headed : IfSome d.proof (λ p. p.head ≡ head)
  pub wanted : is_some d.proof ≡ is_some head
  pub low : IsAnswering d.status
  pub status_is : d.status ≡ status_of associations answers
  pub text_is : d.text.items ≡ result_text h.terms answers
  pub wide : List WidePair
  pub are_wide : AreWide h.schema h.terms h.graph.triples budget pairs wide
  pub notes_are : d.notes.items ≡ notes_by h.terms (length associations) budget answers wide

-- what is known of a proof of answers: each of its texts is a proof of them
pub record IsReplyProof (q : Question) (budget : ℕ) (answers : List Answer) (p : Proof) : Type 0 where
  pub keeps : Keeps p
  pub no_feeds : HasNoFeeds p
  pub proves : (bytes : List ℕ) → ProofText p bytes → IsStoredProofOf q budget answers bytes

-- they are the true answers to what the files hold for the command; their status, text and notes are these, and
-- there is a proof of them exactly where one is wanted
pub record IsReply (told : Told) (c : Command) (budget : ℕ) (with_proof : Bool) (d : Decided) : Type 0 where
  pub question : Question
  pub answers : List Answer
  pub given : d.answers.items ≡ answers
  pub are_answers : AreAnswers told c question budget answers
  pub low : IsAnswering d.status
  pub status_is : d.status ≡ status_of question.associations answers
  pub text_is : d.text.items ≡ result_text question.terms answers
  pub wide : List WidePair
  pub are_wide : AreWide question.held.schema question.terms question.held.graph budget question.pairs wide
  pub notes_are : d.notes.items ≡ notes_of question budget answers wide
  pub proof : IfSome d.proof (IsReplyProof question budget answers)
  pub wanted : is_some d.proof ≡ with_proof

-- the files hold the texts of a drill
abbrev pub AreTexts : (List ℕ → Option (List ℕ)) → Type 0
AreTexts contents = (n : ℕ) × (1 ≤ n) × (n ≤ max_items) × (contents ≡ drill_contents n)

-- the bytes are a proof of the answers to what the texts of these files ask
pub record IsProofOfTexts (contents : List ℕ → Option (List ℕ)) (bytes : List ℕ) : Type 0 where
  pub question : Question
  pub answers : List Answer
  pub asked : IsAskedOf (Some contents) (inputs_of drill_command) question
  pub proof : IsStoredProofOf question default_budget answers bytes

-- the text is the line that counts the answers of a drill with n items, and the bytes are a proof of them
pub record IsDrillReply (n : ℕ) (text bytes : List ℕ) : Type 0 where
  pub question : Question
  pub answers : List Answer
  pub are_answers : AreDrillAnswers n question answers
  pub text_is : text ≡ drill_line n answers
  pub proof : IsStoredProofOf question default_budget answers bytes
