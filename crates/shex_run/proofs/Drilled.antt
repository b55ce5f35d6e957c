-- A drill ends as its texts are answered.
use Rattle.std.proofs.Common.{◌≡◌, ◌∙◌, ◌≤◌, ap, sym, subst, refl, ℕ, suc, List, [], ◌∷◌, inl, inr, arith, length, Bool, true}
use Rattle.std.specs.Prelude.{Contains, None, Option, Some}
use Rattle.lists.proofs.Members.{is_first, is_later}
use Rattle.std.specs.Str.{chars}
use Rattle.input_names.specs.Names.{Text, is_base}
use Rattle.rdf_lex.specs.Characters.{iri_char}
use Rattle.shex_io.specs.Faults.{Rose}
use Rattle.shex_io.specs.Files.{HoldsPart, KeepsOthers, Told}
use Rattle.shex_io.specs.declared.files.Act.{Act}
use Rattle.shex_io.specs.declared.files.Act.TheVariants as Acts
use Rattle.schema_tree.specs.declared.schema.Answer.{Answer}
use Rattle.shape_map.specs.declared.resolve.Association.{Association}
use Rattle.typing_answers.specs.Replies.{AreGiven, given, left, none}
use Rattle.proof_checker.specs.declared.checking.CheckError.TheVariants as CheckErrors
use Rattle.command_words.specs.Drills.{Drill, IsDrill, max_items}
use Rattle.command_words.specs.Lent.{command_of}
use Rattle.command_words.specs.Requests.{Task, checking, default_base, default_budget, max_budget, upgrading, validation}
use Rattle.command_words.specs.declared.command.Command.TheVariants as Lent
use Rattle.command_words.specs.declared.command.Validation.{Validation}
use Rattle.shex_drill.specs.Files.{contents_by, drill_contents, drill_told}
use Rattle.shex_drill.specs.Texts.{graph_text, map_text, schema_text}
use Rattle.drill_laws.specs.Laws.{DrillIsDecided, DrillIsTaken}
use Rattle.shex_inputs.specs.Asked.{IsAskedOf, Question}
use Rattle.shex_inputs.specs.Held.{Held, IsTaken}
use Rattle.shex_inputs.specs.Named.{inputs_with}
use Rattle.shex_inputs.specs.Outcomes.{Explains as ExplainsInput, FaultsAs as FaultsAsInput}
use Rattle.shex_inputs.specs.Refusals.{IsRefused as IsInputRefused}
use Rattle.shex_inputs.specs.declared.error.InputError.{InputError}
use Rattle.shex_inputs.specs.declared.error.InputError.TheVariants as InputErrors
use Rattle.shex_inputs.specs.declared.error.Refusal.{Refusal as InputRefusal}
use Rattle.program_ends.specs.Printing.{IsQuiet, PrintsBoth, SinkSeen}
use Rattle.demand.proofs.Led.{not_decided}
use Rattle.shex_run.specs.declared.deciding.Decided.{Decided}
use Rattle.shex_run.specs.declared.stop.File.TheVariants as Files
use Rattle.shex_run.specs.declared.stop.Refusal.TheVariants as Refusals
use Rattle.shex_run.specs.declared.stop.Stop.{Stop}
use Rattle.shex_run.specs.declared.stop.Stop.TheVariants as Stops
use Rattle.shex_run.specs.Checking.{ConfirmStops}
use Rattle.shex_run.specs.Drills.{AreDrillAnswers, IsCutDrill, IsDrillProof, IsDrilled, drill_command}
use Rattle.shex_run.specs.Endings.{Ends, answered, failed, wanting}
use Rattle.program_ends.specs.Ends.{FilesSeen}
use Rattle.shex_run.specs.Printing.{SaysDrillStop}
use Rattle.shex_run.specs.Proofs.{Accepted, AreAnswers, IsStoredProofOf}
use Rattle.shex_run.specs.Ready.{AreTexts, IsReply}
use Rattle.shex_run.specs.Stopping.{DrillStops, Explains, FaultsAs, IsFit, ProofStops}
use Rattle.shex_run.specs.Tasks.{IsToCheck, inputs_of}
use Rattle.shex_run.specs.Texts.{failed_line}
use Rattle.shex_run.proofs.Settled.{accepted_not_full, accepted_not_rejected}

-- ---- what is asked of the texts

base_passes : is_base default_base ≡ true
unfolding is_base iri_char chars
base_passes = refl

pub drill_fits : IsFit drill_command
drill_fits = record { schema = base_passes; data_file = base_passes; budget = within }
  where
    within : (m : Text) (p : Option Text) (n : ℕ) → drill_command.task ≡ validation m p n → (1 ≤ n) × (n ≤ max_budget)
    within m p n is = let same : default_budget ≡ n = cc in subst (λ k. (1 ≤ k) × (k ≤ max_budget)) same (omega arith, omega arith)

-- a drill checks no proof that is given
no_check : (name : Text) → IsToCheck drill_command name → ⊥
no_check name is = let e : None ≡ Some name = is in cc

abbrev budget_of : Task → ℕ
budget_of (validation m p n) = n
budget_of (checking p) = 0
budget_of (upgrading p t) = 0

module _ (v : Validation) (asked : command_of (Lent.Validate v) ≡ drill_command) where
  pub bases_pass : (is_base v.inputs.schema_base.now ≡ true) × (is_base v.inputs.data_base.now ≡ true)
  bases_pass = (ap (λ k. is_base k.schema_base) asked ∙ base_passes, ap (λ k. is_base k.data_base) asked ∙ base_passes)

  pub replied : (told : Told) (with_proof : Bool) (d : Decided) → with_proof ≡ true → IsReply told (command_of (Lent.Validate v)) v.budget with_proof d →
      IsReply told drill_command default_budget true d
  replied told with_proof d wanted reply =
      subst (λ b. IsReply told drill_command default_budget b d) wanted
      (subst (λ n. IsReply told drill_command n with_proof d) (ap (λ k. budget_of k.task) asked)
      (subst (λ k. IsReply told k v.budget with_proof d) asked reply))

-- ---- the answers

all_given : (L : Association → Type 0) (G : Association → Answer → Type 0) (asked : List Association) (answers : List Answer) → AreGiven L G asked answers →
    ((a : Association) → Contains asked a → L a → ⊥) → length answers ≡ length asked
all_given L G [] [] none decided = refl
all_given L G [] (x ∷ answers) given_none decided = elim given_none [ ]
all_given L G (a ∷ asked) answers (left l more) decided = absurd (decided a (is_first a asked) l)
all_given L G (a ∷ asked) (x ∷ answers) (given g more) decided = ap suc (all_given L G asked answers more (λ b c. decided b (is_later a asked b c)))

module _ (n : ℕ) (low : 1 ≤ n) (high : n ≤ max_items) (law : DrillIsDecided) (told : Told) (is_told : told ≡ drill_told n) (d : Decided)
    (reply : IsReply told drill_command default_budget true d) where
  pub drill_answers : AreDrillAnswers n reply.question reply.answers
  drill_answers =
      let are = subst (λ t. AreAnswers t drill_command reply.question default_budget reply.answers) is_told reply.are_answers in
      record { are_answers = are; all = all_given _ _ reply.question.associations reply.answers are.replies (λ a c out. not_decided reply.question.held.schema reply.question.terms reply.question.held.graph default_budget a.node a.expr out.wide (law n low high reply.question are.asked a c)) }

-- ---- the texts

pub texts_of : (n : ℕ) (schema graph associations : List ℕ) → schema ≡ schema_text → graph ≡ graph_text n → associations ≡ map_text → contents_by schema graph associations ≡ drill_contents n
texts_of n schema graph associations s g m = λ i. contents_by (s i) (g i) (m i)

none_rose : Rose 0 0 → ⊥
none_rose (inl lt) = absurd (omega (arith, lt))
none_rose (inr most) = absurd (omega (arith, most))

module _ (law : DrillIsTaken) (contents : List ℕ → Option (List ℕ)) (texts : AreTexts contents) where
  not_refused : (refusal : InputRefusal) → IsInputRefused (Some contents) (inputs_of drill_command) refusal → ⊥
  not_refused refusal refused =
      let (n, low, high, same) = texts in
      law n low high refusal (subst (λ f. IsInputRefused (Some f) (inputs_of drill_command) refusal) same refused)

  held_or_want : (e : InputError) → ExplainsInput (Some contents) (inputs_of drill_command) e → (blame : List ℕ) (act : Act) →
      FaultsAsInput (inputs_of drill_command) 0 0 blame act e → (e ≡ InputErrors.Memory → ⊥) → ⊥
  held_or_want (InputErrors.Refused refusal) cause blame act faults other = not_refused refusal cause
  held_or_want (InputErrors.Failed source) cause blame act (rose, later, named, acted) other = none_rose rose
  held_or_want InputErrors.Memory cause blame act faults other = other refl

  decided_or_want : (s : Stop) → Explains (Some contents) drill_command s → (blame : List ℕ) (act : Act) → FaultsAs drill_command 0 0 blame act s → (s ≡ Stops.Memory → ⊥) → ⊥
  decided_or_want (Stops.Refused (Refusals.Input refusal)) (of, cause) blame act faults other = not_refused refusal cause
  decided_or_want (Stops.Refused (Refusals.Proof CheckErrors.Full)) (h, bytes, given_proof, full) blame act faults other = no_check given_proof.name given_proof.task
  decided_or_want (Stops.Refused (Refusals.Proof (CheckErrors.Syntax at))) (h, bytes, given_proof, rejects) blame act faults other = no_check given_proof.name given_proof.task
  decided_or_want (Stops.Refused (Refusals.Proof (CheckErrors.Stale part))) (h, bytes, given_proof, rejects) blame act faults other = no_check given_proof.name given_proof.task
  decided_or_want (Stops.Refused (Refusals.Proof CheckErrors.Strata)) (h, bytes, given_proof, rejects) blame act faults other = no_check given_proof.name given_proof.task
  decided_or_want (Stops.Refused (Refusals.Proof (CheckErrors.Rejected i w))) (h, bytes, given_proof, rejects) blame act faults other = no_check given_proof.name given_proof.task
  decided_or_want (Stops.Refused (Refusals.Proof CheckErrors.Memory)) (h, bytes, given_proof, rejects) blame act faults other = no_check given_proof.name given_proof.task
  decided_or_want (Stops.Failed file) cause blame act (rose, later, named, acted) other = none_rose rose
  decided_or_want Stops.Memory cause blame act faults other = other refl

  module _ (v : Validation) (asked : command_of (Lent.Validate v) ≡ drill_command) where
    -- the texts are held, unless memory runs out
    pub are_held : (e : InputError) → ExplainsInput (Some contents) (inputs_with v.inputs v.map.now) e → (blame : List ℕ) (act : Act) →
        FaultsAsInput (inputs_with v.inputs v.map.now) 0 0 blame act e → (e ≡ InputErrors.Memory → ⊥) → ⊥
    are_held e cause blame act faults other =
        held_or_want e (subst (λ k. ExplainsInput (Some contents) (inputs_of k) e) asked cause) blame act (subst (λ k. FaultsAsInput (inputs_of k) 0 0 blame act e) asked faults) other

    -- and their map is answered
    pub are_decided : (s : Stop) → Explains (Some contents) (command_of (Lent.Validate v)) s → (blame : List ℕ) (act : Act) →
        FaultsAs (command_of (Lent.Validate v)) 0 0 blame act s → (s ≡ Stops.Memory → ⊥) → ⊥
    are_decided s cause blame act faults other =
        decided_or_want s (subst (λ k. Explains (Some contents) k s) asked cause) blame act (subst (λ k. FaultsAs k 0 0 blame act s) asked faults) other

-- ---- the check

-- the proof of the answers is confirmed, unless memory runs out
module _ (contents : List ℕ → Option (List ℕ)) (h : Held) (taken : IsTaken (Some contents) (inputs_of drill_command) h)
    (one : (k : Held) → IsTaken (Some contents) (inputs_of drill_command) k → k ≡ h) where
  pub is_confirmed : (q : Question) (answers : List Answer) (bytes : List ℕ) → IsAskedOf (Some contents) (inputs_of drill_command) q →
      IsStoredProofOf q default_budget answers bytes → (stop : Stop) → (stop ≡ Stops.Memory → ⊥) →
      ConfirmStops h bytes stop → ⊥
  is_confirmed q answers bytes asked proof stop other stops = go stop other stops
    where
      accepted : Accepted h bytes q.terms answers
      accepted = subst (λ k. Accepted k bytes q.terms answers) (one q.held asked.taken) proof.accepted

      go : (s : Stop) → (s ≡ Stops.Memory → ⊥) → ConfirmStops h bytes s → ⊥
      go (Stops.Refused (Refusals.Input refusal)) other k = k
      go (Stops.Refused (Refusals.Proof (CheckErrors.Syntax at))) other k = accepted_not_rejected h taken.holding.distinct bytes q.terms answers (CheckErrors.Syntax at) accepted k
      go (Stops.Refused (Refusals.Proof (CheckErrors.Stale part))) other k = accepted_not_rejected h taken.holding.distinct bytes q.terms answers (CheckErrors.Stale part) accepted k
      go (Stops.Refused (Refusals.Proof CheckErrors.Strata)) other k = accepted_not_rejected h taken.holding.distinct bytes q.terms answers CheckErrors.Strata accepted k
      go (Stops.Refused (Refusals.Proof (CheckErrors.Rejected i w))) other k = accepted_not_rejected h taken.holding.distinct bytes q.terms answers (CheckErrors.Rejected i w) accepted k
      go (Stops.Refused (Refusals.Proof CheckErrors.Full)) other k = accepted_not_full h taken.holding.distinct bytes q.terms answers accepted k
      go (Stops.Refused (Refusals.Proof CheckErrors.Memory)) other k = k
      go (Stops.Failed file) other k = k
      go Stops.Memory other k = other refl

-- ---- the store

module _ (told after : Told) (d : Drill) (name bytes : List ℕ) (named : d.proof ≡ Some name) (due : IsDrillProof d.items bytes)
    (part : HoldsPart told after name bytes) (others : KeepsOthers told after name) where
  cut : IsCutDrill told after d
  cut = record { name = name; named = named; bytes = bytes; due = due; part = part; others = others }

  pub drill_unstored : (before later : ℕ) (blame : List ℕ) (act : Act) (stop : Stop) → ProofStops Files.Proof name Acts.Store before later blame act stop →
      DrillStops told after d before later blame act stop
  drill_unstored before later blame act (Stops.Refused refusal) h = h
  drill_unstored before later blame act (Stops.Failed file) (e, (rose, up, blamed, acted)) = (rose, up, named ∙ ap (λ z. Some z) (sym blamed), acted, cut)
  drill_unstored before later blame act Stops.Memory h = (h, inr cut)

-- ---- the end

module _ (words : List Text) (d : Drill) (is_drill : IsDrill words d) (files : FilesSeen) (out err : SinkSeen) (status : ℕ) where
  pub with_line : (text notes : List ℕ) (wanted : ℕ) → IsDrilled files.told files.told_after d wanted text notes → files.faults_after ≡ files.faults →
      PrintsBoth out err text notes wanted status → Ends words files out err status
  with_line text notes wanted drilled still prints = answered text notes wanted (inl drilled.status_is) (inr (d, is_drill, drilled)) still prints

  no_fetch : {act : Act} → act ≡ Acts.Store → act ≡ Acts.Fetch → ⊥
  no_fetch stored fetched = cc

  -- it ends as it was stopped
  pub with_stop : (stop : Stop) → DrillStops files.told files.told_after d files.faults files.faults_after files.blame files.act stop → IsQuiet out →
      SaysDrillStop d stop err status → Ends words files out err status
  with_stop (Stops.Refused refusal) stops quiet says = elim stops [ ]
  with_stop (Stops.Failed file) (rose, up, named, acted, cut_store) quiet says =
      failed (failed_line files.blame) (record {
        rose = rose;
        failed = inr (record { drill = d; is_drill = is_drill; bytes = cut_store.bytes; due = cut_store.due; name_is = named; act_is = acted });
        line_is = refl;
      }) (record { later = up; stored = inr (inr (d, is_drill, cut_store)); unfetched = λ e. absurd (no_fetch acted e) }) quiet (says files.blame named)
  with_stop Stops.Memory (still, inl same) quiet (also, at) = wanting (inl same) still quiet also at
  with_stop Stops.Memory (still, inr cut_store) quiet (also, at) = wanting (inr (inr (d, is_drill, cut_store))) still quiet also at
