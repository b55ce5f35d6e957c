-- How a call ends, and what it has printed then.
use Rattle.std.specs.Prelude.{ℕ, List, [], ◌++◌, Contains, Option, not, ◌≡◌, Some}
use Rattle.input_names.specs.Names.{Text}
use Rattle.shex_io.specs.Faults.{Rose}
use Rattle.shex_io.specs.Files.{Told}
use Rattle.shex_io.specs.Sinks.{Gains}
use Rattle.shex_io.specs.declared.files.Act.TheVariants.{Fetch}
use Rattle.command_words.specs.Checks.{Fault}
use Rattle.program_ends.specs.Ends.{EndsBy, FilesSeen}
use Rattle.call_ends.specs.Parts.{ArePrintedInPart, IsDueBy}
use Rattle.idle_selectors.specs.Laws.{AreOfIdle, HaveLines}
use Rattle.idle_selectors.specs.Texts.{idle_text}
use Rattle.program_ends.specs.Printing.{SinkSeen}
use Rattle.shard_answers.specs.declared.error.CallFile.{CallFile}
use Rattle.shard_answers.specs.Answers.{CoversTo}
use Rattle.schema_tree.specs.Truths.{IsTruth}
use Rattle.shape_map.specs.declared.resolve.Association.{Association}
use Rattle.shex_inputs.specs.Asked.{Question}
use Rattle.tool_words.specs.Asked.{Explaining, IsToolCall, IsToolFault, ToolCall, of_labels, of_reasons, of_schema, of_cover, of_shards}
use Rattle.tool_words.specs.Requests.{Covering}
use Rattle.shex_tools.specs.declared.stop.Refusal.{Refusal}
use Rattle.shex_tools.specs.Notes.{AreIdleNotes}
use Rattle.shex_tools.specs.Outcomes.{IsQuestionOf, IsRefused, Reaches}
use Rattle.shex_tools.specs.Results.{IsAnswer}
use Rattle.shex_tools.specs.Showing.{IsRefusalText}
use Rattle.shex_tools.specs.Texts.{failed_line, name_of, words_line}

-- the line is that of the first fault of the words
abbrev pub IsWordsLine : List Text → List ℕ → Type 0
IsWordsLine words line = (f : Fault) × IsToolFault words f × (line ≡ words_line f)

-- the text answers what the words ask with this status, and the notes say what is left out
abbrev pub IsAnswered : Told → List Text → ℕ → List ℕ → List ℕ → Type 0
IsAnswered told words status text notes = (call : ToolCall) × IsToolCall words call × IsAnswer told call status text notes

-- the text is that of the refusal of a file that the words name: its line, and, of `explain`, what is shown of the file
pub record IsRefusedBy (told : Told) (words : List Text) (text : List ℕ) : Type 0 where
  pub call : ToolCall
  pub is_call : IsToolCall words call
  pub refusal : Refusal
  pub refused : IsRefused told call refusal
  pub text_is : IsRefusalText told call refusal text

-- in this call a fault of the files came, at a file of the words to which the steps came and which was not fetched, and the line names it
pub record IsFailedBy (files : FilesSeen) (words : List Text) (line : List ℕ) : Type 0 where
  pub rose : Rose files.faults files.faults_after
  pub call : ToolCall
  pub is_call : IsToolCall words call
  pub source : CallFile
  pub reached : Reaches files.told call source
  pub name_is : files.blame ≡ name_of call source
  pub act_is : files.act ≡ Fetch
  pub line_is : line ≡ failed_line files.blame

-- the words ask why the associations of a map are not as asked, and one of them is not: the complete typing does not satisfy its
-- expression at its node where it is to, or does where it is not to
pub record HasFailing (told : Told) (words : List Text) : Type 0 where
  pub explaining : Explaining
  pub is_call : IsToolCall words (of_reasons explaining)
  pub question : Question
  pub is_asked : IsQuestionOf told explaining question
  pub association : Association
  pub listed : Contains question.associations association
  pub failing : IsTruth question.held.schema question.terms question.held.graph association.node association.expr (not association.want)

-- what is noted where nothing is Unknown: of `explain` the lines for the idle selectors of its map, at most so many as its limit says, and of
-- each other call nothing
abbrev pub AreQuietNotes : Told → ToolCall → List ℕ → Type 0
AreQuietNotes told (of_schema c) notes = notes ≡ []
AreQuietNotes told (of_labels l) notes = notes ≡ []
AreQuietNotes told (of_reasons e) notes = (q : Question) × (asked : IsQuestionOf told e q) × AreIdleNotes q.terms q.held.graph asked.items e.limit notes
AreQuietNotes told (of_shards s) notes = notes ≡ []

-- what is noted quietly for a call for which the words ask
abbrev pub AreNotedQuietly : Told → List Text → List ℕ → Type 0
AreNotedQuietly told words notes = (call : ToolCall) × IsToolCall words call × AreQuietNotes told call notes

-- what the error stream gains ends with lines, at most so many as the limit says: each selector of the map that is idle has its line, and each
-- line is that of one that is
pub record TellsIdle (told : Told) (e : Explaining) (got after : Option (List ℕ)) : Type 0 where
  pub question : Question
  pub is_asked : IsQuestionOf told e question
  pub lines : List (List ℕ)
  pub have : HaveLines question.terms question.held.graph is_asked.items lines
  pub of_idle : AreOfIdle question.terms question.held.graph is_asked.items lines
  pub before : List ℕ
  pub gained : Gains got after (before ++ idle_text e.limit lines)

-- the words ask whether shards have what a part of the data has at their nodes, and one of them lacks a line
pub record HasLacking (told : Told) (words : List Text) : Type 0 where
  pub covering : Covering
  pub is_call : IsToolCall words (of_shards (of_cover covering))
  pub text : List ℕ
  pub covers : CoversTo told covering (Some text)

-- how a call ends: the words are at fault; or there is an answer; or a file is refused; or one was not fetched; or memory ran out before
-- anything was printed
abbrev pub ToolEnds : List Text → FilesSeen → SinkSeen → SinkSeen → ℕ → Type 0
ToolEnds words files out err status = EndsBy (IsWordsLine words) (IsRefusedBy files.told words) (IsFailedBy files words) (IsAnswered files.told words) files out err status

-- what is printed where printing stopped: a part of what is due
abbrev pub IsPrintedInPart : List Text → FilesSeen → SinkSeen → SinkSeen → Type 0
IsPrintedInPart words files out err = ArePrintedInPart (IsDueBy (IsWordsLine words) (IsRefusedBy files.told words) (IsFailedBy files words)) (IsAnswered files.told words) out err
