-- How a call ends, and what it has printed and stored then.
use Rattle.std.specs.Prelude.{ℕ, List, [], ◌≡◌, ◌≤◌, ◌⊎◌, Option, Some}
use Rattle.input_names.specs.Names.{Text}
use Rattle.shex_io.specs.Faults.{Rose}
use Rattle.shex_io.specs.Files.{Told, KeepsOthers}
use Rattle.shex_io.specs.Sinks.{Gains, GainsPrefix}
use Rattle.shex_io.specs.declared.files.Act.TheVariants.{Fetch, Store}
use Rattle.schema_tree.specs.declared.schema.Answer.{Answer}
use Rattle.shape_map.specs.Results.{result_text}
use Rattle.proof_checker.specs.declared.checking.CheckError.{CheckError}
use Rattle.proof_checker.specs.declared.checking.CheckError.TheVariants as CheckErrors
use Rattle.command_words.specs.Asked.{Command, IsAsked}
use Rattle.command_words.specs.Checks.{Fault}
use Rattle.command_words.specs.Drills.{Drill, IsDrill, IsFault}
use Rattle.shex_inputs.specs.declared.error.Refusal.{Refusal as InputRefusal}
use Rattle.shex_inputs.specs.Asked.{Question}
use Rattle.shex_run.specs.declared.stop.File.{File}
use Rattle.shex_run.specs.declared.stop.Refusal.TheVariants as Refusals
use Rattle.shex_run.specs.Checking.{IsCheckedAs, IsFull, IsRejected}
use Rattle.program_ends.specs.Ends.{AreLeft, FilesSeen}
use Rattle.program_ends.specs.Printing.{IsQuiet, PrintsBoth, PrintsTo, SinkSeen}
use Rattle.shex_run.specs.Drills.{IsCutDrill, IsDrillProof, IsDrilled}
use Rattle.shex_run.specs.Outcomes.{IsRefused, Reaches}
use Rattle.shex_run.specs.Proofs.{AreAnswers, IsDueProof, IsStoredProofOf, Stores}
use Rattle.shex_run.specs.Statuses.{IsAnswering, status_of}
use Rattle.shex_run.specs.Storing.{IsCutStore, IsDueUpgrade, IsUpgradeOf}
use Rattle.shex_run.specs.Tasks.{IsToStore, IsToValidate, act_of, name_of, stored_of}
use Rattle.shex_run.specs.Texts.{failed_line, refusal_line, notes_of, words_line}
use Rattle.wide_pairs.specs.Wide.{AreWide}
use Rattle.typing_refiner.specs.declared.building.WidePair.{WidePair}

-- the text is the result map of the true answers to what the map asks of the files, and the notes are those that are due; the status
-- is 4 where some association has no answer, 0 where each is answered as it wants, and else 1; where a name is given, it holds a
-- proof of the answers, and no other name changed
pub record IsAnswered (told after : Told) (c : Command) (status : ℕ) (text notes : List ℕ) : Type 0 where
  pub map_name : Text
  pub proof_name : Option Text
  pub budget : ℕ
  pub task : IsToValidate c map_name proof_name budget
  pub question : Question
  pub answers : List Answer
  pub are_answers : AreAnswers told c question budget answers
  pub stored : Stores told after proof_name (IsStoredProofOf question budget answers)
  pub status_is : status ≡ status_of question.associations answers
  pub text_is : text ≡ result_text question.terms answers
  pub wide : List WidePair
  pub are_wide : AreWide question.held.schema question.terms question.held.graph budget question.pairs wide
  pub notes_are : notes ≡ notes_of question budget answers wide

-- the text is the result map of the claims of a current and accepted proof, and nothing more is due; where the proof is to be stored,
-- the name for it holds the proof in format 2, and no other name changed
pub record IsConfirmed (told after : Told) (c : Command) (status : ℕ) (text notes : List ℕ) : Type 0 where
  pub checked : IsCheckedAs told c text
  pub stored : Stores told after (stored_of c.task) (IsUpgradeOf checked.held checked.confirmed.accepted.found.found.proof checked.bytes)
  pub status_is : status ≡ 0
  pub notes_are : notes ≡ []

-- the text answers the command, and the notes say what is left out
abbrev pub IsResponse : Told → Told → Command → ℕ → List ℕ → List ℕ → Type 0
IsResponse told after c status text notes = IsAnswered told after c status text notes ⊎ IsConfirmed told after c status text notes

-- the text answers what the words ask of files, and the notes say what is left out
pub record Responds (told after : Told) (words : List Text) (status : ℕ) (text notes : List ℕ) : Type 0 where
  pub command : Command
  pub is_asked : IsAsked words command
  pub response : IsResponse told after command status text notes

-- the text answers what the words ask, or it is the line of the drill for which they ask
abbrev pub IsRespondedTo : Told → Told → List Text → ℕ → List ℕ → List ℕ → Type 0
IsRespondedTo told after words status text notes =
    Responds told after words status text notes ⊎ ((d : Drill) × IsDrill words d × IsDrilled told after d status text notes)

-- the line is that of the first fault of the words
abbrev pub IsWordsLine : List Text → List ℕ → Type 0
IsWordsLine words line = (f : Fault) × IsFault words f × (line ≡ words_line f)

-- the line is that of the refusal of a file of the inputs, or of a current proof whose node lines the table cannot take up
abbrev pub IsRefusalLine : Told → Command → List ℕ → Type 0
IsRefusalLine told c line =
    ((refusal : InputRefusal) × IsRefused told c refusal × (line ≡ refusal_line c (Refusals.Input refusal)))
    ⊎ (IsFull told c × (line ≡ refusal_line c (Refusals.Proof CheckErrors.Full)))

-- the line is that of the refusal of a file that the words name
pub record IsRefusedBy (told : Told) (words : List Text) (line : List ℕ) : Type 0 where
  pub command : Command
  pub is_asked : IsAsked words command
  pub refused : IsRefusalLine told command line

-- the line is that of the rejection of the proof that the words name
pub record IsRejectedBy (told : Told) (words : List Text) (line : List ℕ) : Type 0 where
  pub command : Command
  pub is_asked : IsAsked words command
  pub rejection : CheckError
  pub rejected : IsRejected told command rejection
  pub line_is : line ≡ refusal_line command (Refusals.Proof rejection)

-- the last fault is that of a file of the words to which the steps came, and which could not be fetched or stored
pub record IsFailedFile (files : FilesSeen) (words : List Text) : Type 0 where
  pub command : Command
  pub is_asked : IsAsked words command
  pub file : File
  pub reached : Reaches files.told command file
  pub name_is : files.blame ≡ name_of command file
  pub act_is : files.act ≡ act_of command.task file

-- the last fault is that of the file in which the proof of a drill was to be stored, once it was made
pub record IsFailedDrill (files : FilesSeen) (words : List Text) : Type 0 where
  pub drill : Drill
  pub is_drill : IsDrill words drill
  pub bytes : List ℕ
  pub due : IsDrillProof drill.items bytes
  pub name_is : drill.proof ≡ Some files.blame
  pub act_is : files.act ≡ Store

-- in this call a fault of the files came, and the line names its file
pub record IsFailedBy (files : FilesSeen) (words : List Text) (line : List ℕ) : Type 0 where
  pub rose : Rose files.faults files.faults_after
  pub failed : IsFailedFile files words ⊎ IsFailedDrill files words
  pub line_is : line ≡ failed_line files.blame

-- nothing is stored, or the proof for which the words ask in part
abbrev pub IsPartlyStored : Told → Told → List Text → Type 0
IsPartlyStored told after words =
    (after ≡ told) ⊎ (((c : Command) × IsAsked words c × IsCutStore told after c) ⊎ ((d : Drill) × IsDrill words d × IsCutDrill told after d))

-- each name holds what it held, but for the one under which the words ask for a proof to be stored
abbrev pub KeepsTold : Told → Told → List Text → Type 0
KeepsTold told after words =
    (after ≡ told)
    ⊎ (((c : Command) × IsAsked words c × ((name : Text) × IsToStore c name × KeepsOthers told after name))
    ⊎ ((d : Drill) × IsDrill words d × ((name : Text) × (d.proof ≡ Some name) × KeepsOthers told after name)))

-- a call on a file failed: the count of faults does not fall; the proof is stored in part at most, and nothing where it was a fetch
pub record HaveFailed (files : FilesSeen) (words : List Text) : Type 0 where
  pub later : files.faults ≤ files.faults_after
  pub stored : IsPartlyStored files.told files.told_after words
  pub unfetched : files.act ≡ Fetch → files.told_after ≡ files.told

-- how a call ends: the words are at fault; or there is an answer; or the inputs are refused; or the proof is rejected; or a
-- call on a file failed; or memory ran out before anything was printed
pub data Ends (words : List Text) (files : FilesSeen) (out err : SinkSeen) (status : ℕ) : Type 0 where
  faulty : (line : List ℕ) → IsWordsLine words line → AreLeft files → IsQuiet out → PrintsTo err line 2 status → Ends words files out err status
  answered : (text notes : List ℕ) (wanted : ℕ) → IsAnswering wanted → IsRespondedTo files.told files.told_after words wanted text notes →
      files.faults_after ≡ files.faults → PrintsBoth out err text notes wanted status → Ends words files out err status
  refused : (line : List ℕ) → IsRefusedBy files.told words line → AreLeft files → IsQuiet out → PrintsTo err line 3 status → Ends words files out err status
  rejected : (line : List ℕ) → IsRejectedBy files.told words line → AreLeft files → IsQuiet out → PrintsTo err line 6 status → Ends words files out err status
  failed : (line : List ℕ) → IsFailedBy files words line → HaveFailed files words → IsQuiet out → PrintsTo err line 5 status → Ends words files out err status
  wanting : IsPartlyStored files.told files.told_after words → files.faults_after ≡ files.faults → IsQuiet out → IsQuiet err → status ≡ 8 → Ends words files out err status

-- the line is due to the error stream: the words are at fault, a file is refused, or the proof is rejected, and nothing is stored; or a
-- call on a file failed
abbrev pub IsDue : FilesSeen → List Text → List ℕ → Type 0
IsDue files words line =
    ((IsWordsLine words line ⊎ (IsRefusedBy files.told words line ⊎ IsRejectedBy files.told words line)) × AreLeft files)
    ⊎ (IsFailedBy files words line × HaveFailed files words)

-- printing stopped: the output got a prefix of the text that answers, and the error stream nothing; or the output got that text whole,
-- and the error stream a prefix of the notes; and the proof is stored whole if one is asked for. Or the error stream got a prefix of the
-- line that is due to it, and the output nothing
pub data IsPrintedInPart (words : List Text) (files : FilesSeen) (out err : SinkSeen) : Type 0 where
  answer_in_part : (text notes : List ℕ) (status : ℕ) → IsRespondedTo files.told files.told_after words status text notes → files.faults_after ≡ files.faults →
      GainsPrefix out.got out.got_after text → IsQuiet err → IsPrintedInPart words files out err
  notes_in_part : (text notes : List ℕ) (status : ℕ) → IsRespondedTo files.told files.told_after words status text notes → files.faults_after ≡ files.faults →
      Gains out.got out.got_after text → GainsPrefix err.got err.got_after notes → IsPrintedInPart words files out err
  line_in_part : (line : List ℕ) → IsDue files words line → IsQuiet out → GainsPrefix err.got err.got_after line → IsPrintedInPart words files out err

-- nothing was printed, and the proof is stored in part at most; no fault came
pub record IsUnprinted (words : List Text) (files : FilesSeen) (out err : SinkSeen) : Type 0 where
  pub stored : IsPartlyStored files.told files.told_after words
  pub faults_same : files.faults_after ≡ files.faults
  pub out_quiet : IsQuiet out
  pub err_quiet : IsQuiet err

-- what is printed where memory ran out: a part of what is due, or nothing
abbrev pub MayPrintInPart : List Text → FilesSeen → SinkSeen → SinkSeen → Type 0
MayPrintInPart words files out err = IsPrintedInPart words files out err ⊎ IsUnprinted words files out err

-- the proof for which the command asks under this name is stored whole, as far as is told, and no other name changed
abbrev pub IsWhollyStored : Told → Told → Command → Text → Type 0
IsWhollyStored told after c name = Stores told after (Some name) (IsDueProof told c name)

-- the proof that was checked is stored whole in format 2, as far as is told, and no other name changed
abbrev pub IsWhollyUpgraded : Told → Told → Command → Text → Type 0
IsWhollyUpgraded told after c name = Stores told after (Some name) (IsDueUpgrade told c name)

-- the proof of a drill is stored whole, as far as is told, and no other name changed
abbrev pub IsDrillWhollyStored : Told → Told → Drill → Text → Type 0
IsDrillWhollyStored told after d name = Stores told after (Some name) (IsDrillProof d.items)
