-- How a call ends, from what it found.
use Rattle.std.proofs.Common.{◌≡◌, ◌∙◌, ap, sym, refl, List, ℕ, inl, inr}
use Rattle.std.specs.Prelude.{IfOk, Option, Result}
use Rattle.input_names.specs.Names.{Text}
use Rattle.shex_io.specs.declared.files.Act.{Act}
use Rattle.shex_io.specs.declared.files.Act.TheVariants as Acts
use Rattle.command_words.specs.Asked.{Command, IsAsked}
use Rattle.command_words.specs.Checks.{Fault, arguments, base, ending, import_word, same as same_name}
use Rattle.command_words.specs.Drills.{IsFault}
use Rattle.command_words.specs.Lent.{Because}
use Rattle.command_words.specs.declared.error.WordsError.{WordsError}
use Rattle.command_words.specs.declared.error.WordsError.TheVariants as Errors
use Rattle.proof_checker.specs.declared.checking.CheckError.{CheckError}
use Rattle.proof_checker.specs.declared.checking.CheckError.TheVariants as CheckErrors
use Rattle.program_ends.specs.Printing.{IsQuiet, Prints, PrintsBoth, PrintsTo, SinkSeen}
use Rattle.shex_run.specs.declared.stop.Refusal.TheVariants as Refusals
use Rattle.shex_run.specs.declared.stop.Stop.{Stop}
use Rattle.shex_run.specs.declared.stop.Stop.TheVariants as Stops
use Rattle.shex_run.specs.Checking.{IsRejected}
use Rattle.program_ends.specs.Ends.{AreLeft, FilesSeen}
use Rattle.shex_run.specs.Endings.{Ends, IsPartlyStored, IsResponse, answered, failed, faulty, refused, rejected, wanting}
use Rattle.shex_run.specs.Printing.{RefusesWords, SaysStop}
use Rattle.shex_run.specs.Statuses.{IsAnswering}
use Rattle.shex_run.specs.Stopping.{Explains, FaultsAs, LeavesFailed, LeavesStored}
use Rattle.shex_run.specs.Storing.{MayStore}
use Rattle.shex_run.specs.Tasks.{act_of, name_of}
use Rattle.shex_run.specs.Texts.{failed_line, refusal_line, words_line}

module _ (words : List Text) (c : Command) (is_asked : IsAsked words c) (files : FilesSeen) (out err : SinkSeen) (status : ℕ) where
  -- what a call may have stored, in the words
  partly : MayStore files.told files.told_after c → IsPartlyStored files.told files.told_after words
  partly (inl still) = inl still
  partly (inr cut) = inr (inl (c, is_asked, cut))

  -- a failed call stores the proof in part at most
  failed_in_part : (act : Act) → LeavesFailed files.told files.told_after c act → MayStore files.told files.told_after c
  failed_in_part Acts.Fetch still = inl still
  failed_in_part Acts.Store may = may

  -- and nothing where it was a fetch
  failed_unfetched : (act : Act) → act ≡ Acts.Fetch → LeavesFailed files.told files.told_after c act → files.told_after ≡ files.told
  failed_unfetched Acts.Fetch e still = still
  failed_unfetched Acts.Store e may = absurd cc

  pub with_response : (text notes : List ℕ) (wanted : ℕ) → IsAnswering wanted → IsResponse files.told files.told_after c wanted text notes →
      files.faults_after ≡ files.faults → PrintsBoth out err text notes wanted status → Ends words files out err status
  with_response text notes wanted low response still prints = answered text notes wanted low (inl (record { command = c; is_asked = is_asked; response = response })) still prints

  with_rejection : (e : CheckError) → IsRejected files.told c e → files.faults_after ≡ files.faults → files.told_after ≡ files.told → IsQuiet out →
      PrintsTo err (refusal_line c (Refusals.Proof e)) 6 status → Ends words files out err status
  with_rejection e cause still left quiet prints =
      rejected (refusal_line c (Refusals.Proof e)) (record { command = c; is_asked = is_asked; rejection = e; rejected = cause; line_is = refl })
      (record { told_same = left; faults_same = still }) quiet prints

  pub with_stop : (stop : Stop) → Explains files.told c stop → FaultsAs c files.faults files.faults_after files.blame files.act stop → LeavesStored files.told files.told_after c stop → IsQuiet out →
      SaysStop c stop err status → Ends words files out err status
  with_stop (Stops.Refused (Refusals.Input refusal)) cause still left quiet prints =
      refused (refusal_line c (Refusals.Input refusal)) (record { command = c; is_asked = is_asked; refused = inl (refusal, cause, refl) })
      (record { told_same = left; faults_same = still }) quiet prints
  with_stop (Stops.Refused (Refusals.Proof CheckErrors.Full)) cause still left quiet prints =
      refused (refusal_line c (Refusals.Proof CheckErrors.Full)) (record { command = c; is_asked = is_asked; refused = inr (cause, refl) })
      (record { told_same = left; faults_same = still }) quiet prints
  with_stop (Stops.Refused (Refusals.Proof CheckErrors.Memory)) (h, bytes, given, none) still left quiet prints = absurd none
  with_stop (Stops.Refused (Refusals.Proof (CheckErrors.Syntax at))) cause still left quiet prints = with_rejection (CheckErrors.Syntax at) cause still left quiet prints
  with_stop (Stops.Refused (Refusals.Proof (CheckErrors.Stale part))) cause still left quiet prints = with_rejection (CheckErrors.Stale part) cause still left quiet prints
  with_stop (Stops.Refused (Refusals.Proof CheckErrors.Strata)) cause still left quiet prints = with_rejection CheckErrors.Strata cause still left quiet prints
  with_stop (Stops.Refused (Refusals.Proof (CheckErrors.Rejected i w))) cause still left quiet prints = with_rejection (CheckErrors.Rejected i w) cause still left quiet prints
  with_stop (Stops.Failed file) cause (rose, later, named, act) left quiet prints = failed (failed_line (name_of c file)) (record {
    rose = rose;
    failed = inl (record { command = c; is_asked = is_asked; file = file; reached = cause; name_is = named; act_is = act });
    line_is = ap failed_line (sym named);
  }) (record { later = later; stored = partly (failed_in_part (act_of c.task file) left); unfetched = λ e. failed_unfetched (act_of c.task file) (sym act ∙ e) left }) quiet prints
  with_stop Stops.Memory cause still left quiet (silent, at) = wanting (partly left) still quiet silent at

-- the line of the words' fault is printed, unless memory ran out
pub printed : {X Y : Type 0} (bytes : X → List ℕ) (made : Result X Y) (e : WordsError) → (e ≡ Errors.Memory → ⊥) →
    IfOk made (λ s. Because (λ f. bytes s ≡ words_line f) e) → (before after : Option (List ℕ)) (faults faults_after status : ℕ) →
    ((line : List ℕ) → IfOk made (λ s. bytes s ≡ line) → Prints before after faults faults_after line 2 status) → RefusesWords e before after faults faults_after status
printed bytes made Errors.Arguments other line before after faults faults_after status prints = prints (words_line arguments) line
printed bytes made (Errors.Ending name) other line before after faults faults_after status prints = prints (words_line (ending name.now)) line
printed bytes made (Errors.Import word) other line before after faults faults_after status prints = prints (words_line (import_word word.now)) line
printed bytes made (Errors.Base iri) other line before after faults faults_after status prints = prints (words_line (base iri.now)) line
printed bytes made (Errors.Same name) other line before after faults faults_after status prints = prints (words_line (same_name name.now)) line
printed bytes made Errors.Memory other line before after faults faults_after status prints = absurd (other refl)

module _ (words : List Text) (files : FilesSeen) (out err : SinkSeen) (status : ℕ) (left : AreLeft files) (quiet : IsQuiet out) where
  with_fault : (f : Fault) → IsFault words f → PrintsTo err (words_line f) 2 status → Ends words files out err status
  with_fault f is prints = faulty (words_line f) (f, is, refl) left quiet prints

  pub with_words : (e : WordsError) → Because (IsFault words) e → RefusesWords e err.got err.got_after err.faults err.faults_after status → Ends words files out err status
  with_words Errors.Arguments is prints = with_fault arguments is prints
  with_words (Errors.Ending name) is prints = with_fault (ending name.now) is prints
  with_words (Errors.Import word) is prints = with_fault (import_word word.now) is prints
  with_words (Errors.Base iri) is prints = with_fault (base iri.now) is prints
  with_words (Errors.Same name) is prints = with_fault (same_name name.now) is prints
  with_words Errors.Memory is (at, got, faults) = wanting (inl left.told_same) left.faults_same quiet (record { got_same = got; faults_same = faults }) at
