-- Why the functions of a call stop.
use Rattle.std.proofs.Common.{◌≡◌, ◌≢◌, Err, Ok, sym, subst, ℕ, List, inl, inr}
use Rattle.std.specs.Prelude.{IfErr, IfOk, Result}
use Rattle.shex_io.specs.Fetching.{IsFile}
use Rattle.session_script.specs.Scripts.{Explains as ScriptExplains}
use Rattle.session_script.specs.declared.commands.Command.{Command}
use Rattle.session_script.specs.declared.error.ScriptError.{ScriptError}
use Rattle.session_script.specs.declared.error.ScriptError.TheVariants as ScriptErrors
use Rattle.shex_inputs.specs.declared.error.InputError.{InputError}
use Rattle.shex_inputs.specs.declared.error.InputError.TheVariants as InputErrors
use Rattle.shex_inputs.specs.Held.{Held}
use Rattle.shex_inputs.specs.Outcomes.{Explains as ExplainsInput, FaultsAs as FaultsAsInput, IsBeforeMap}
use Rattle.shex_io.specs.Files.{Told}
use Rattle.shex_io.specs.declared.files.Act.{Act}
use Rattle.tool_words.specs.Asked.{Editing}
use Rattle.session_run.specs.declared.error.CommandError.{CommandError}
use Rattle.session_run.specs.declared.error.CommandError.TheVariants as CommandErrors
use Rattle.session_run.specs.declared.said.Said.{Said}
use Rattle.session_run.specs.declared.stop.Refusal.{Refusal}
use Rattle.session_run.specs.declared.stop.Refusal.TheVariants as Refusals
use Rattle.session_run.specs.declared.stop.Stop.{Stop}
use Rattle.session_run.specs.declared.stop.Stop.TheVariants as Stops
use Rattle.session_run.specs.Files.{inputs_of}
use Rattle.session_run.specs.Outcomes.{AreAnswers, AreHeld, EndsAs, HoldsScript}
use Rattle.session_run.specs.Replies.{Reply}
use Rattle.session_run.specs.Running.{Says}
use Rattle.session_run.specs.Script.{answered, refused}
use Rattle.session_run.specs.Stopping.{Explains, FaultsAs, FetchStops, IsCommandStop, IsRefusalOf, IsScriptStop, RunStops, stop_of}

-- what holds of want of memory and of the refusal holds of the stop
by_refusal : {E : Type 0} (memory : E) (refusal : E → Refusal) (e : E) (stop : Stop) (P : Stop → Type 0) → IsRefusalOf memory refusal e stop → P Stops.Memory →
    (e ≢ memory → P (Stops.Refused (refusal e))) → P stop
by_refusal memory refusal e stop P (inl (is, made)) wanting to = subst P (sym made) wanting
by_refusal memory refusal e stop P (inr (apart, made)) wanting to = subst P (sym made) (to apart)

module _ (told : Told) (e : Editing) (before after : ℕ) (blame : List ℕ) (act : Act) where
  -- the schema or the data are not taken
  pub input_explains : (x : InputError) → IsBeforeMap x → ExplainsInput told (inputs_of e) x → Explains told e (stop_of x)
  input_explains (InputErrors.Refused refusal) early why = (early, why)
  input_explains (InputErrors.Failed source) early why = (early, why)
  input_explains InputErrors.Memory early why = tt

  pub input_faults : (x : InputError) → FaultsAsInput (inputs_of e) before after blame act x → FaultsAs e before after blame act (stop_of x)
  input_faults (InputErrors.Refused refusal) why = why
  input_faults (InputErrors.Failed source) why = why
  input_faults InputErrors.Memory why = why

  -- the script's file is not fetched
  pub fetch_explains : (h : Held) → AreHeld told e h → (stop : Stop) → FetchStops told e.script before after blame act stop → Explains told e stop
  fetch_explains h held (Stops.Refused refusal) (is, long, still) = subst (λ r. Explains told e (Stops.Refused r)) (sym is) (h, held, long)
  fetch_explains h held (Stops.Failed file) (is, why) = subst (λ f. Explains told e (Stops.Failed f)) (sym is) (h, held)
  fetch_explains h held Stops.Memory why = tt

  pub fetch_faults : (stop : Stop) → FetchStops told e.script before after blame act stop → FaultsAs e before after blame act stop
  fetch_faults (Stops.Refused refusal) (is, long, still) = still
  fetch_faults (Stops.Failed file) (is, why) = subst (λ f. FaultsAs e before after blame act (Stops.Failed f)) (sym is) why
  fetch_faults Stops.Memory still = still

  -- its bytes are no script
  pub script_explains : (h : Held) → AreHeld told e h → (bytes source : List ℕ) → IsFile told e.script bytes → source ≡ bytes →
      (x : ScriptError) (stop : Stop) → ScriptExplains x source → IsScriptStop x stop → Explains told e stop
  script_explains h held bytes source file whole x stop cause is =
      by_refusal ScriptErrors.Memory (λ y. Refusals.Script y) x stop (Explains told e) is tt (λ apart. (h, held, (bytes, file, apart, subst (ScriptExplains x) whole cause)))

  pub script_faults : (x : ScriptError) (stop : Stop) → after ≡ before → IsScriptStop x stop → FaultsAs e before after blame act stop
  script_faults x stop still is = by_refusal ScriptErrors.Memory (λ y. Refusals.Script y) x stop (FaultsAs e before after blame act) is still (λ apart. still)

  -- a command is refused
  pub run_explains : (h : Held) → AreHeld told e h → (commands : List Command) → HoldsScript told e commands → (stop : Stop) → RunStops h e.budget commands stop → Explains told e stop
  run_explains h held commands script (Stops.Refused (Refusals.Input refusal)) why = absurd why
  run_explains h held commands script (Stops.Refused Refusals.Size) why = absurd why
  run_explains h held commands script (Stops.Refused (Refusals.Script x)) why = absurd why
  run_explains h held commands script (Stops.Refused (Refusals.Command x)) why = (h, held, (commands, script, why.0, why.1))
  run_explains h held commands script (Stops.Failed file) why = absurd why
  run_explains h held commands script Stops.Memory why = tt

  pub run_faults : (h : Held) (commands : List Command) (stop : Stop) → after ≡ before → RunStops h e.budget commands stop → FaultsAs e before after blame act stop
  run_faults h commands (Stops.Refused refusal) still why = still
  run_faults h commands (Stops.Failed file) still why = absurd why
  run_faults h commands Stops.Memory still why = still

pub command_stops : (h : Held) (budget : ℕ) (commands : List Command) (x : CommandError) (stop : Stop) →
    (x ≢ CommandErrors.Memory → EndsAs h budget commands (refused x)) → IsCommandStop x stop → RunStops h budget commands stop
command_stops h budget commands x stop ends is = by_refusal CommandErrors.Memory (λ y. Refusals.Command y) x stop (RunStops h budget commands) is tt (λ apart. (apart, ends apart))

-- ---- a whole call

module _ (told : Told) (e : Editing) (h : Held) (held : AreHeld told e h) (commands : List Command) (script : HoldsScript told e commands) where
  -- the answers are those to what the files hold
  pub answers_of : (r : Result Said Stop) → IfOk r (λ said. (replies : List Reply) × EndsAs h e.budget commands (answered replies) × Says said replies) →
      IfOk r (λ said. (replies : List Reply) × AreAnswers told e replies × Says said replies)
  answers_of (Ok said) (replies, ends, says) = (replies, record { held = h; taken = held; commands = commands; script = script; ends = ends }, says)
  answers_of (Err stop) done = tt

  pub cause_of : (before after : ℕ) (blame : List ℕ) (act : Act) (r : Result Said Stop) → IfErr r (RunStops h e.budget commands) → IfErr r (Explains told e)
  cause_of before after blame act (Ok said) why = tt
  cause_of before after blame act (Err stop) why = run_explains told e before after blame act h held commands script stop why

  pub faults_of : (before after : ℕ) (blame : List ℕ) (act : Act) → after ≡ before → (r : Result Said Stop) → IfErr r (RunStops h e.budget commands) → IfErr r (FaultsAs e before after blame act)
  faults_of before after blame act still (Ok said) why = tt
  faults_of before after blame act still (Err stop) why = run_faults told e before after blame act h commands stop still why
