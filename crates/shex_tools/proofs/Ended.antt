-- How a call ends, from what it found.
use Rattle.std.proofs.Common.{◌≡◌, ◌≢◌, ap, sym, subst, refl, List, ℕ}
use Rattle.std.specs.Prelude.{codes}
use Rattle.call_ends.specs.Words.{RefusesWords}
use Rattle.call_ends.proofs.Closing as closing
use Rattle.input_names.specs.Names.{Text}
use Rattle.command_words.specs.Checks.{arguments, base, ending, import_word, same as same_name}
use Rattle.command_words.specs.Lent.{Because, words_text}
use Rattle.command_words.specs.declared.error.WordsError.{WordsError}
use Rattle.command_words.specs.declared.error.WordsError.TheVariants as Errors
use Rattle.program_ends.specs.Ends.{AreLeft, FilesSeen, answered, failed, refused}
use Rattle.program_ends.specs.Printing.{IsQuiet, PrintsBoth, PrintsTo, SinkSeen}
use Rattle.shex_io.specs.Fetching.{HasFailed}
use Rattle.shard_answers.specs.declared.error.CallFile.{CallFile}
use Rattle.shex_io.specs.Files.{Told}
use Rattle.tool_words.specs.Asked.{IsToolCall, IsToolFault, ToolCall}
use Rattle.shex_tools.specs.declared.stop.Refusal.{Refusal}
use Rattle.shex_tools.specs.Endings.{IsAnswered, IsFailedBy, IsRefusedBy, IsWordsLine, ToolEnds}
use Rattle.shex_tools.specs.Outcomes.{IsRefused, Reaches}
use Rattle.shex_tools.specs.Results.{IsAnswer}
use Rattle.shex_tools.specs.Showing.{IsRefusalText}
use Rattle.shex_tools.specs.Texts.{failed_line, name_of, tool_line}

module _ (words : List Text) (call : ToolCall) (is_call : IsToolCall words call) (files : FilesSeen) (out err : SinkSeen) (status : ℕ) where
  pub with_answer : (text notes : List ℕ) (wanted : ℕ) → IsAnswer files.told call wanted text notes → AreLeft files → PrintsBoth out err text notes wanted status → ToolEnds words files out err status
  with_answer text notes wanted answer left prints = answered text notes wanted (call, is_call, answer) left prints

  pub with_refusal : (refusal : Refusal) (text : List ℕ) → IsRefused files.told call refusal → IsRefusalText files.told call refusal text → AreLeft files →
      IsQuiet out → PrintsTo err text 3 status → ToolEnds words files out err status
  with_refusal refusal text why is left quiet prints =
      refused text (record { call = call; is_call = is_call; refusal = refusal; refused = why; text_is = is }) left quiet prints

  pub with_failure : (source : CallFile) → Reaches files.told call source →
      HasFailed (name_of call source) files.faults files.faults_after files.blame files.act → files.told_after ≡ files.told → IsQuiet out →
      PrintsTo err (failed_line (name_of call source)) 5 status → ToolEnds words files out err status
  with_failure source reached (rose, later, named, act) same quiet prints = failed (failed_line (name_of call source)) (record {
    rose = rose;
    call = call;
    is_call = is_call;
    source = source;
    reached = reached;
    name_is = named;
    act_is = act;
    line_is = ap failed_line (sym named);
  }) same later quiet prints

-- the files as they were before, where they told the same then, with the same count of faults
abbrev pub seen_from : FilesSeen → Told → ℕ → FilesSeen
seen_from files told faults = record {
  told = told;
  told_after = files.told_after;
  faults = faults;
  faults_after = files.faults_after;
  blame = files.blame;
  act = files.act;
}

pub ends_before : (words : List Text) (files : FilesSeen) (out err : SinkSeen) (status : ℕ) (told : Told) (faults : ℕ) →
    files.told ≡ told → files.faults ≡ faults →
    ToolEnds words files out err status → ToolEnds words (seen_from files told faults) out err status
ends_before words files out err status told faults same still ends =
    subst (λ t. ToolEnds words (seen_from files t faults) out err status) same
    (subst (λ n. ToolEnds words (seen_from files files.told n) out err status) still ends)

-- the line for an error of the words is that of the fault which it names
line_of : (words : List Text) (e : WordsError) → Because (IsToolFault words) e → e ≢ Errors.Memory → IsWordsLine words (tool_line (codes "words") (words_text e))
line_of words Errors.Arguments is apart = (arguments, is, refl)
line_of words (Errors.Ending name) is apart = (ending name.now, is, refl)
line_of words (Errors.Import word) is apart = (import_word word.now, is, refl)
line_of words (Errors.Base iri) is apart = (base iri.now, is, refl)
line_of words (Errors.Same name) is apart = (same_name name.now, is, refl)
line_of words Errors.Memory is apart = absurd (apart refl)

pub with_words : (words : List Text) (files : FilesSeen) (out err : SinkSeen) (status : ℕ) → AreLeft files → IsQuiet out → (e : WordsError) → Because (IsToolFault words) e →
    RefusesWords Errors.Memory e (tool_line (codes "words") (words_text e)) err status → ToolEnds words files out err status
with_words words files out err status left quiet e is refuses =
    closing.with_words (IsWordsLine words) (IsRefusedBy files.told words) (IsFailedBy files words)
    (IsAnswered files.told words) files out err status Errors.Memory e _ (line_of words e is) left quiet refuses
