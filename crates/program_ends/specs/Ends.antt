-- What a call sees of the files, and how a call of a program that stores nothing ends.
use Rattle.std.specs.Prelude.{ℕ, List, ◌≡◌, ◌≤◌}
use Rattle.shex_io.specs.Files.{Told}
use Rattle.shex_io.specs.declared.files.Act.{Act}
use Rattle.program_ends.specs.Printing.{IsQuiet, PrintsBoth, PrintsTo, SinkSeen}

-- the files before and after a call: what they tell, and the count of faults; and the last fault
pub record FilesSeen : Type 0 where
  pub told : Told
  pub told_after : Told
  pub faults : ℕ
  pub faults_after : ℕ
  pub blame : List ℕ
  pub act : Act

-- what a call sees of the files, by what they tell before and after
abbrev pub files_seen : {Files : Type 0} → (Files → Told) → (Files → ℕ) → (Files → List ℕ) → (Files → Act) → Files → Files → FilesSeen
files_seen told faults blame act before after =
    record { told = told before; told_after = told after; faults = faults before; faults_after = faults after; blame = blame after; act = act after }

-- nothing is stored, and no fault of the files came
pub record AreLeft (files : FilesSeen) : Type 0 where
  pub told_same : files.told_after ≡ files.told
  pub faults_same : files.faults_after ≡ files.faults

-- by which lines say what is wrong with the words, a file, or a call on a file, and which text and notes answer with which status:
-- the words are at fault; or there is an answer; or a file is refused; or a fetch failed; or memory ran out before anything was printed
pub data EndsBy (Faulty Refused Failed : List ℕ → Type 0) (Answers : ℕ → List ℕ → List ℕ → Type 0) (files : FilesSeen) (out err : SinkSeen) (status : ℕ) : Type 0 where
  faulty : (line : List ℕ) → Faulty line → AreLeft files → IsQuiet out → PrintsTo err line 2 status → EndsBy Faulty Refused Failed Answers files out err status
  answered : (text notes : List ℕ) (wanted : ℕ) → Answers wanted text notes → AreLeft files → PrintsBoth out err text notes wanted status → EndsBy Faulty Refused Failed Answers files out err status
  refused : (line : List ℕ) → Refused line → AreLeft files → IsQuiet out → PrintsTo err line 3 status → EndsBy Faulty Refused Failed Answers files out err status
  failed : (line : List ℕ) → Failed line → files.told_after ≡ files.told → files.faults ≤ files.faults_after → IsQuiet out → PrintsTo err line 5 status →
      EndsBy Faulty Refused Failed Answers files out err status
  wanting : AreLeft files → IsQuiet out → IsQuiet err → status ≡ 8 → EndsBy Faulty Refused Failed Answers files out err status
