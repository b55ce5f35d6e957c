-- How a call ends, and what it has printed then.
use Rattle.std.specs.Prelude.{ℕ, List, ◌≡◌}
use Rattle.input_names.specs.Names.{Text}
use Rattle.shex_io.specs.Faults.{Rose}
use Rattle.shex_io.specs.Files.{Told}
use Rattle.shex_io.specs.declared.files.Act.TheVariants.{Fetch}
use Rattle.command_words.specs.Checks.{Fault}
use Rattle.program_ends.specs.Ends.{EndsBy, FilesSeen}
use Rattle.call_ends.specs.Parts.{ArePrintedInPart, IsDueBy}
use Rattle.program_ends.specs.Printing.{SinkSeen}
use Rattle.tool_words.specs.Asked.{Editing, IsEditing, IsEditingFault}
use Rattle.session_run.specs.declared.stop.File.{File}
use Rattle.session_run.specs.declared.stop.Refusal.{Refusal}
use Rattle.session_run.specs.Files.{name_of}
use Rattle.session_run.specs.Outcomes.{AreAnswers, IsRefused, Reaches}
use Rattle.session_run.specs.Replies.{Reply, notes_of, status_of, text_of}
use Rattle.session_run.specs.Texts.{failed_line, refusal_line, words_line}

-- the line is that of the first fault of the words
abbrev pub IsWordsLine : List Text → List ℕ → Type 0
IsWordsLine words line = (f : Fault) × IsEditingFault words f × (line ≡ words_line f)

-- the text has the answers to the questions of the script, and the notes what is noted beside them; the status is 4 exactly where some
-- answer is Unknown, and else 0
pub record IsAnswered (told : Told) (e : Editing) (status : ℕ) (text notes : List ℕ) : Type 0 where
  pub replies : List Reply
  pub are_answers : AreAnswers told e replies
  pub status_is : status ≡ status_of replies
  pub text_is : text ≡ text_of replies
  pub notes_are : notes ≡ notes_of replies

-- so of what the words ask
pub record IsAnsweredBy (told : Told) (words : List Text) (status : ℕ) (text notes : List ℕ) : Type 0 where
  pub editing : Editing
  pub is_asked : IsEditing words editing
  pub answered : IsAnswered told editing status text notes

-- the line is that of the refusal of a file that the words name
pub record IsRefusedBy (told : Told) (words : List Text) (line : List ℕ) : Type 0 where
  pub editing : Editing
  pub is_asked : IsEditing words editing
  pub refusal : Refusal
  pub refused : IsRefused told editing refusal
  pub line_is : line ≡ refusal_line editing refusal

-- in this call a fault of the files came, at a file of the words to which the steps came and which was not fetched, and the line names it
pub record IsFailedBy (files : FilesSeen) (words : List Text) (line : List ℕ) : Type 0 where
  pub rose : Rose files.faults files.faults_after
  pub editing : Editing
  pub is_asked : IsEditing words editing
  pub file : File
  pub reached : Reaches files.told editing file
  pub name_is : files.blame ≡ name_of editing file
  pub act_is : files.act ≡ Fetch
  pub line_is : line ≡ failed_line files.blame

-- how a call ends: the words are at fault; or there are answers; or a file is refused; or one was not fetched; or memory ran out before
-- anything was printed
abbrev pub SessionEnds : List Text → FilesSeen → SinkSeen → SinkSeen → ℕ → Type 0
SessionEnds words files out err status = EndsBy (IsWordsLine words) (IsRefusedBy files.told words) (IsFailedBy files words) (IsAnsweredBy files.told words) files out err status

-- what is printed where printing stopped: a part of what is due
abbrev pub IsPrintedInPart : List Text → FilesSeen → SinkSeen → SinkSeen → Type 0
IsPrintedInPart words files out err = ArePrintedInPart (IsDueBy (IsWordsLine words) (IsRefusedBy files.told words) (IsFailedBy files words)) (IsAnsweredBy files.told words) out err
