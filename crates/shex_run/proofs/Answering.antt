-- What answers a command, and what stops it.
use Rattle.std.proofs.Common.{◌≡◌, ◌≢◌, ◌∙◌, ap, sym, subst, refl, List, ℕ, inl, inr, []}
use Rattle.std.specs.Prelude.{Option, Some, None, unwrap_or}
use Rattle.input_names.specs.Names.{Text}
use Rattle.shex_io.specs.Files.{Holds, HoldsPart, KeepsOthers, Told}
use Rattle.shex_io.specs.declared.files.Act.{Act}
use Rattle.shex_io.specs.declared.files.Act.TheVariants as Acts
use Rattle.schema_tree.specs.declared.schema.Answer.{Answer}
use Rattle.shape_map.specs.Results.{result_text}
use Rattle.command_words.specs.Asked.{Command}
use Rattle.command_words.specs.Requests.{Task, checking, proof_of, upgrading, validation}
use Rattle.shex_inputs.specs.declared.error.InputError.{InputError}
use Rattle.shex_inputs.specs.declared.error.InputError.TheVariants as Errors
use Rattle.shex_inputs.specs.declared.error.Source.{Source}
use Rattle.shex_inputs.specs.declared.error.Source.TheVariants as Sources
use Rattle.shex_inputs.specs.Asked.{Question}
use Rattle.shex_inputs.specs.Held.{Held, IsTaken}
use Rattle.shex_inputs.specs.Named.{source_of}
use Rattle.shex_inputs.specs.Outcomes.{IsBeforeMap, Explains as ExplainsInput, FaultsAs as FaultsAsInput}
use Rattle.shex_run.specs.declared.stop.File.{File}
use Rattle.shex_run.specs.declared.stop.File.TheVariants as Files
use Rattle.proof_checker.specs.declared.checking.CheckError.TheVariants as CheckErrors
use Rattle.shex_run.specs.declared.stop.Refusal.TheVariants as Refusals
use Rattle.shex_run.specs.declared.stop.Stop.{Stop}
use Rattle.shex_run.specs.declared.stop.Stop.TheVariants as Stops
use Rattle.shex_run.specs.Checking.{ConfirmStops, Confirms, IsCheckedAs, IsGiven}
use Rattle.shex_run.specs.Endings.{IsResponse}
use Rattle.shex_run.specs.Outcomes.{Reaches, ReachesProof}
use Rattle.shex_run.specs.Proofs.{AreAnswers, IsDueProof, IsStoredProofOf, Stores}
use Rattle.shex_run.specs.Statuses.{status_of}
use Rattle.shex_run.specs.Stopping.{Explains, FaultsAs, LeavesFailed, LeavesStored, ProofStops, stop_of}
use Rattle.shex_run.specs.Storing.{IsCutStore, IsDueUpgrade, IsUpgradeOf, Upgrades}
use Rattle.shex_run.specs.Texts.{notes_of}
use Rattle.wide_pairs.specs.Wide.{AreWide}
use Rattle.typing_refiner.specs.declared.building.WidePair.{WidePair}
use Rattle.shex_run.specs.Tasks.{IsInputOf, IsToCheck, IsToStore, IsToValidate, act_of, inputs_of, name_of, stored_of}
use Rattle.shex_run.proofs.Checked.{fetched_act, fetched_name, reaches, stored_name}

-- what a stop says of the cause, the faults and the store
pub record Stopped (told after : Told) (c : Command) (before later : ℕ) (blame : List ℕ) (act : Act) (stop : Stop) : Type 0 where
  pub cause : Explains told c stop
  pub faults : FaultsAs c before later blame act stop
  pub stored : LeavesStored told after c stop

-- ---- the inputs

-- the stop is about a file of the task
abbrev pub IsOfTask : Task → InputError → Type 0
IsOfTask t (Errors.Refused refusal) = IsInputOf t (source_of refusal)
IsOfTask t (Errors.Failed source) = IsInputOf t source
IsOfTask t Errors.Memory = Unit {0}

-- any stop is about a file of `validate`
pub wish_of_task : (m : Text) (p : Option Text) (n : ℕ) (e : InputError) → IsOfTask (validation m p n) e
wish_of_task m p n (Errors.Refused refusal) = tt
wish_of_task m p n (Errors.Failed source) = tt
wish_of_task m p n Errors.Memory = tt

-- a stop of schema or data is about a file of every task
no_map_of : (t : Task) (source : Source) → source ≢ Sources.Map → IsInputOf t source
no_map_of (validation m p n) source other = tt
no_map_of (checking name) (Sources.Schema file) other = tt
no_map_of (checking name) Sources.Data other = tt
no_map_of (checking name) Sources.Map other = other refl
no_map_of (upgrading name to) (Sources.Schema file) other = tt
no_map_of (upgrading name to) Sources.Data other = tt
no_map_of (upgrading name to) Sources.Map other = other refl

pub base_of_task : (t : Task) (e : InputError) → IsBeforeMap e → IsOfTask t e
base_of_task t (Errors.Refused refusal) before = no_map_of t (source_of refusal) before
base_of_task t (Errors.Failed source) before = no_map_of t source before
base_of_task t Errors.Memory before = tt

pub input_stopped : (told after : Told) (c : Command) (before later : ℕ) (blame : List ℕ) (act : Act) (e : InputError) → IsOfTask c.task e →
    ExplainsInput told (inputs_of c) e → FaultsAsInput (inputs_of c) before later blame act e → after ≡ told →
    Stopped told after c before later blame act (stop_of e)
input_stopped told after c before later blame act (Errors.Refused refusal) of cause still same = record { cause = (of, cause); faults = still; stored = same }
input_stopped told after c before later blame act (Errors.Failed source) of cause rose same = record { cause = (of, cause); faults = rose; stored = same }
input_stopped told after c before later blame act Errors.Memory of cause still same = record { cause = tt; faults = still; stored = inl same }

-- ---- `validate`

-- an answer to `validate`, before anything is stored
pub record IsDue (told : Told) (c : Command) (map_name : Text) (proof_name : Option Text) (budget : ℕ) (q : Question) (answers : List Answer) (status : ℕ) (text notes : List ℕ) : Type 0 where
  pub task : IsToValidate c map_name proof_name budget
  pub are : AreAnswers told c q budget answers
  pub status_is : status ≡ status_of q.associations answers
  pub text_is : text ≡ result_text q.terms answers
  pub wide : List WidePair
  pub are_wide : AreWide q.held.schema q.terms q.held.graph budget q.pairs wide
  pub notes_are : notes ≡ notes_of q budget answers wide

module _ (told : Told) (c : Command) (map_name : Text) (proof_name : Option Text) (budget : ℕ) (q : Question) (answers : List Answer) (status : ℕ)
    (text notes : List ℕ) (due : IsDue told c map_name proof_name budget q answers status text notes) where
  -- what is due is the response once the proof is stored
  responds : (after : Told) → Stores told after proof_name (IsStoredProofOf q budget answers) → IsResponse told after c status text notes
  responds after stored = inl (record {
    map_name = map_name;
    proof_name = proof_name;
    budget = budget;
    task = due.task;
    question = q;
    answers = answers;
    are_answers = due.are;
    stored = stored;
    status_is = due.status_is;
    text_is = due.text_is;
    wide = due.wide;
    are_wide = due.are_wide;
    notes_are = due.notes_are;
  })

  -- without a name nothing is stored
  pub unstored : proof_name ≡ None → (after : Told) → after ≡ told → IsResponse told after c status text notes
  unstored nothing after same = responds after (subst (λ p. Stores told after p (IsStoredProofOf q budget answers)) (sym nothing) same)

  module _ (name bytes : List ℕ) (named : proof_name ≡ Some name) (proof : IsStoredProofOf q budget answers bytes) where
    due_proof : IsDueProof told c name bytes
    due_proof = record {
      map_name = map_name;
      budget = budget;
      task = subst (λ p. IsToValidate c map_name p budget) named due.task;
      question = q;
      answers = answers;
      are_answers = due.are;
      proof = proof;
    }

    pub stored : (after : Told) → Holds after name (Some bytes) → KeepsOthers told after name → IsResponse told after c status text notes
    stored after held others = responds after (subst (λ p. Stores told after p (IsStoredProofOf q budget answers)) (sym named) (bytes, proof, held, others))

    cut : (after : Told) → HoldsPart told after name bytes → KeepsOthers told after name → IsCutStore told after c
    cut after part others = record { name = name; bytes = bytes; due = inl due_proof; part = part; others = others }

    reached : (file : File) → file ≡ Files.Proof → Reaches told c file
    reached file e =
        subst (λ f. Reaches told c f) (sym e)
        (subst (λ t. ReachesProof told c t) (sym due.task) (name, (bytes, due_proof)))

    pub store_stopped : (after : Told) (before later : ℕ) (blame : List ℕ) (act : Act) (stop : Stop) →
        ProofStops Files.Proof name Acts.Store before later blame act stop → HoldsPart told after name bytes → KeepsOthers told after name → Stopped told after c before later blame act stop
    store_stopped after before later blame act (Stops.Refused refusal) h part others = absurd h
    store_stopped after before later blame act (Stops.Failed file) (e, (rose, up, blamed, acted)) part others = record {
      cause = reached file e;
      faults = (rose, up, blamed ∙ own_name, acted ∙ own_act);
      stored = subst (LeavesFailed told after c) own_act (inr (cut after part others));
    }
      where
        own_name : name ≡ name_of c file
        own_name = sym (ap (λ f. name_of c f) e ∙ ap (λ t. unwrap_or (proof_of t) []) due.task ∙ ap (λ p. unwrap_or p []) named)

        own_act : Acts.Store ≡ act_of c.task file
        own_act = sym (ap (λ f. act_of c.task f) e ∙ ap (λ t. act_of t Files.Proof) due.task)
    store_stopped after before later blame act Stops.Memory h part others = record { cause = tt; faults = h; stored = inr (cut after part others) }

-- ---- `check` and `upgrade`

module _ (told : Told) (c : Command) (b : Held) (taken : IsTaken told (inputs_of c) b) (name : List ℕ) (is : IsToCheck c name) where
  pub fetch_stopped : (after : Told) → after ≡ told → (before later : ℕ) (blame : List ℕ) (act : Act) (stop : Stop) →
      ProofStops Files.Proof name Acts.Fetch before later blame act stop → Stopped told after c before later blame act stop
  fetch_stopped after same before later blame act (Stops.Refused refusal) h = absurd h
  fetch_stopped after same before later blame act (Stops.Failed file) (e, (rose, up, blamed, acted)) = record {
    cause = subst (λ f. Reaches told c f) (sym e) (reaches told c c.task name is b taken);
    faults = (rose, up, blamed ∙ own_name, acted ∙ own_act);
    stored = subst (LeavesFailed told after c) own_act same;
  }
    where
      own_name : name ≡ name_of c file
      own_name = fetched_name c.task name is ∙ sym (ap (λ f. name_of c f) e)

      own_act : Acts.Fetch ≡ act_of c.task file
      own_act = fetched_act c.task name is ∙ sym (ap (λ f. act_of c.task f) e)
  fetch_stopped after same before later blame act Stops.Memory h = record { cause = tt; faults = h; stored = inl same }

  module _ (bytes : List ℕ) (held : Holds told name (Some bytes)) where
    given : IsGiven told c b bytes
    given = record { taken = taken; name = name; task = is; held = held }

    abbrev checked_as : (text : List ℕ) → Confirms b bytes text → IsCheckedAs told c text
    checked_as text k = record { held = b; bytes = bytes; given = given; confirmed = k }

    pub confirmed : stored_of c.task ≡ None → (after : Told) → after ≡ told → (text : List ℕ) → Confirms b bytes text → IsResponse told after c 0 text []
    confirmed none after same text k = inr (record {
      checked = checked_as text k;
      stored = subst (λ o. Stores told after o (IsUpgradeOf b k.accepted.found.found.proof bytes)) (sym none) same;
      status_is = refl;
      notes_are = refl;
    })

    pub confirm_stopped : (after : Told) → after ≡ told → (before later : ℕ) (blame : List ℕ) (act : Act) → later ≡ before → (stop : Stop) →
        ConfirmStops b bytes stop → Stopped told after c before later blame act stop
    confirm_stopped after same before later blame act still (Stops.Refused (Refusals.Input refusal)) h = absurd h
    confirm_stopped after same before later blame act still (Stops.Refused (Refusals.Proof CheckErrors.Full)) h = record { cause = (b, bytes, given, h); faults = still; stored = same }
    confirm_stopped after same before later blame act still (Stops.Refused (Refusals.Proof CheckErrors.Memory)) h = absurd h
    confirm_stopped after same before later blame act still (Stops.Refused (Refusals.Proof (CheckErrors.Syntax at))) h = record { cause = (b, bytes, given, h); faults = still; stored = same }
    confirm_stopped after same before later blame act still (Stops.Refused (Refusals.Proof (CheckErrors.Stale part))) h = record { cause = (b, bytes, given, h); faults = still; stored = same }
    confirm_stopped after same before later blame act still (Stops.Refused (Refusals.Proof CheckErrors.Strata)) h = record { cause = (b, bytes, given, h); faults = still; stored = same }
    confirm_stopped after same before later blame act still (Stops.Refused (Refusals.Proof (CheckErrors.Rejected i w))) h = record { cause = (b, bytes, given, h); faults = still; stored = same }
    confirm_stopped after same before later blame act still (Stops.Failed file) h = absurd h
    confirm_stopped after same before later blame act still Stops.Memory h = record { cause = tt; faults = still; stored = inl same }

    -- the proof that is accepted is stored in format 2
    module _ (to : List ℕ) (at : IsToStore c to) (text new : List ℕ) (k : Upgrades b bytes text new) (mid after : Told) (same : mid ≡ told) where
      pub upgraded : Holds after to (Some new) → KeepsOthers mid after to → IsResponse told after c 0 text []
      upgraded held_new others = inr (record {
        checked = checked_as text k.confirmed;
        stored = subst (λ o. Stores told after o (IsUpgradeOf b k.confirmed.accepted.found.found.proof bytes)) (sym at) (new, k.upgrade, held_new, subst (λ t. KeepsOthers t after to) same others);
        status_is = refl;
        notes_are = refl;
      })

      due_upgrade : IsDueUpgrade told c to new
      due_upgrade = record { task = at; held = b; old = bytes; given = given; text = text; upgrades = k }

      cut_upgrade : HoldsPart mid after to new → KeepsOthers mid after to → IsCutStore told after c
      cut_upgrade part others = record {
        name = to;
        bytes = new;
        due = inr due_upgrade;
        part = subst (λ t. HoldsPart t after to new) same part;
        others = subst (λ t. KeepsOthers t after to) same others;
      }

      pub upgrade_stopped : (before later : ℕ) (blame : List ℕ) (act : Act) (stop : Stop) →
          ProofStops Files.Upgraded to Acts.Store before later blame act stop → HoldsPart mid after to new → KeepsOthers mid after to → Stopped told after c before later blame act stop
      upgrade_stopped before later blame act (Stops.Refused refusal) h part others = absurd h
      upgrade_stopped before later blame act (Stops.Failed file) (e, (rose, up, blamed, acted)) part others = record {
        cause = subst (λ f. Reaches told c f) (sym e) (to, (new, due_upgrade));
        faults = (rose, up, blamed ∙ own_name, acted ∙ own_act);
        stored = subst (LeavesFailed told after c) own_act (inr (cut_upgrade part others));
      }
        where
          own_name : to ≡ name_of c file
          own_name = stored_name c.task name to is at ∙ sym (ap (λ f. name_of c f) e)

          own_act : Acts.Store ≡ act_of c.task file
          own_act = sym (ap (λ f. act_of c.task f) e)
      upgrade_stopped before later blame act Stops.Memory h part others = record { cause = tt; faults = h; stored = inr (cut_upgrade part others) }
