-- How a call ends, from what it found.
use Rattle.std.proofs.Common.{◌≡◌, ◌≢◌, ◌∙◌, ap, sym, refl, List, ℕ}
use Rattle.std.specs.Prelude.{codes}
use Rattle.call_ends.proofs.Closing.{with_words as refused_words}
use Rattle.call_ends.specs.Statuses.{status_by}
use Rattle.call_ends.specs.Words.{RefusesWords}
use Rattle.input_names.specs.Names.{Text}
use Rattle.command_words.specs.Checks.{arguments, base, ending, import_word, same as same_name}
use Rattle.command_words.specs.Lent.{Because, words_text}
use Rattle.command_words.specs.declared.error.WordsError.{WordsError}
use Rattle.command_words.specs.declared.error.WordsError.TheVariants as Errors
use Rattle.program_ends.specs.Ends.{AreLeft, FilesSeen, answered, failed, refused}
use Rattle.program_ends.specs.Printing.{IsQuiet, PrintsBoth, PrintsTo, SinkSeen}
use Rattle.shex_io.specs.Fetching.{HasFailed}
use Rattle.tool_words.specs.Asked.{Editing, IsEditing, IsEditingFault}
use Rattle.session_run.specs.declared.said.Said.{Said}
use Rattle.session_run.specs.declared.stop.File.{File}
use Rattle.session_run.specs.declared.stop.Refusal.{Refusal}
use Rattle.session_run.specs.Endings.{IsAnsweredBy, IsFailedBy, IsRefusedBy, IsWordsLine, SessionEnds}
use Rattle.session_run.specs.Files.{name_of}
use Rattle.session_run.specs.Outcomes.{AreAnswers, IsRefused, Reaches}
use Rattle.session_run.specs.Replies.{Reply}
use Rattle.session_run.specs.Running.{Says}
use Rattle.session_run.specs.Texts.{failed_line, refusal_line, session_line}

module _ (words : List Text) (e : Editing) (is_asked : IsEditing words e) (files : FilesSeen) (out err : SinkSeen) (status : ℕ) where
  pub with_answers : (replies : List Reply) (said : Said) (text notes : List ℕ) (wanted : ℕ) → AreAnswers files.told e replies → Says said replies →
      text ≡ said.text.items → notes ≡ said.notes.items → wanted ≡ status_by said.undecided →
      AreLeft files → PrintsBoth out err text notes wanted status → SessionEnds words files out err status
  with_answers replies said text notes wanted are says text_is notes_are is left prints = answered text notes wanted (record {
    editing = e;
    is_asked = is_asked;
    answered = record { replies = replies; are_answers = are; status_is = is ∙ ap status_by says.undecided_is; text_is = text_is ∙ says.text_is; notes_are = notes_are ∙ says.notes_are };
  }) left prints

  pub with_refusal : (refusal : Refusal) → IsRefused files.told e refusal → AreLeft files → IsQuiet out → PrintsTo err (refusal_line e refusal) 3 status → SessionEnds words files out err status
  with_refusal refusal why left quiet prints =
      refused (refusal_line e refusal) (record { editing = e; is_asked = is_asked; refusal = refusal; refused = why; line_is = refl }) left quiet prints

  pub with_failure : (file : File) → Reaches files.told e file → HasFailed (name_of e file) files.faults files.faults_after files.blame files.act → files.told_after ≡ files.told → IsQuiet out →
      PrintsTo err (failed_line (name_of e file)) 5 status → SessionEnds words files out err status
  with_failure file reached (rose, later, named, act) same quiet prints = failed (failed_line (name_of e file)) (record {
    rose = rose;
    editing = e;
    is_asked = is_asked;
    file = file;
    reached = reached;
    name_is = named;
    act_is = act;
    line_is = ap failed_line (sym named);
  }) same later quiet prints

module _ (words : List Text) (files : FilesSeen) (out err : SinkSeen) (status : ℕ) (left : AreLeft files) (quiet : IsQuiet out) where
  of_error : (e : WordsError) → Because (IsEditingFault words) e → e ≢ Errors.Memory → IsWordsLine words (session_line (codes "words") (words_text e))
  of_error Errors.Arguments is other = (arguments, is, refl)
  of_error (Errors.Ending name) is other = (ending name.now, is, refl)
  of_error (Errors.Import word) is other = (import_word word.now, is, refl)
  of_error (Errors.Base iri) is other = (base iri.now, is, refl)
  of_error (Errors.Same name) is other = (same_name name.now, is, refl)
  of_error Errors.Memory is other = absurd (other refl)

  pub with_words : (e : WordsError) → Because (IsEditingFault words) e → RefusesWords Errors.Memory e (session_line (codes "words") (words_text e)) err status → SessionEnds words files out err status
  with_words e is refuses = refused_words (IsWordsLine words) (IsRefusedBy files.told words) (IsFailedBy files words) (IsAnsweredBy files.told words) files out err status
      Errors.Memory e (session_line (codes "words") (words_text e)) (of_error e is) left quiet refuses
