-- What a call of a program in memory is, and how it ends.
use Rattle.std.specs.Prelude.{List, Option, Some, [], map, string_bytes, ℕ, ◌<◌, ◌≡◌, ◌⊎◌}
use Rattle.shex_io.specs.Sure.{act_of, blame_of, bytes_of, contents_of, faults_of}
use Rattle.shex_io.specs.declared.sure.SureFiles.{SureFiles}
use Rattle.program_ends.specs.Ends.{FilesSeen}
use Rattle.program_ends.specs.Printing.{SinkSeen}
use Rattle.call_parts.specs.declared.asked.Request.{Request}
use Rattle.call_parts.specs.declared.calls.Call.{Call}
use Rattle.call_parts.specs.declared.calls.CallError.{CallError}
use Rattle.call_parts.specs.declared.calls.CallError.TheVariants as CallErrors
use Rattle.call_parts.specs.declared.handed.Reply.{Reply}
use Rattle.call_parts.specs.Given.{HaveOwnNames, HoldsGiven, bytes_of_words}
use Rattle.call_parts.specs.Handed.{IsHandedOver}

-- how a call of a program ends: by its words, what it sees of the files, its output and error stream, and its status
abbrev pub Ending : Type 1
Ending = List (List ℕ) → FilesSeen → SinkSeen → SinkSeen → ℕ → Type 0

-- files in memory before and after a call
abbrev pub files_seen : SureFiles → SureFiles → FilesSeen
files_seen before after = record {
  told = Some (contents_of before);
  told_after = Some (contents_of after);
  faults = faults_of before;
  faults_after = faults_of after;
  blame = blame_of after;
  act = act_of after;
}

-- a sink in memory by what it has got before and after a call; no fault comes
abbrev pub sink_seen : List ℕ → List ℕ → SinkSeen
sink_seen before after = record { got = Some before; got_after = Some after; faults = 0; faults_after = 0 }

-- the call is over the words and files of the request, and nothing is printed yet
pub record IsCallOf (request : Request) (call : Call) : Type 0 where
  pub words_are : map string_bytes call.words.items ≡ bytes_of_words request.words.now
  pub files_are : HoldsGiven (contents_of call.files) request.files.now
  pub wanted_is : string_bytes call.wanted ≡ request.wanted.bytes.now
  pub nothing_printed : bytes_of call.out ≡ []
  pub nothing_said : bytes_of call.err ≡ []

-- the call ends as the program does over its words, files and sinks, and the name of the wanted file is as it was
pub record EndsAs (Ends : Ending) (before after : Call) (status : ℕ) : Type 0 where
  pub ends : Ends
      (map string_bytes before.words.items)
      (files_seen before.files after.files)
      (sink_seen (bytes_of before.out) (bytes_of after.out))
      (sink_seen (bytes_of before.err) (bytes_of after.err))
      status
  pub wanted_same : after.wanted ≡ before.wanted

-- what the program does over the words and files of the request is handed over: what it prints and says, and what the wanted file
-- holds then
pub record IsCalled (Ends : Ending) (request : Request) (before after : Reply) (status : ℕ) : Type 0 where
  pub contents : List ℕ → Option (List ℕ)
  pub given : HoldsGiven contents request.files.now
  pub own_names : HaveOwnNames request.files.now
  pub seen : FilesSeen
  pub told : seen.told ≡ Some contents
  pub contents_after : List ℕ → Option (List ℕ)
  pub told_after : seen.told_after ≡ Some contents_after
  pub printed : List ℕ
  pub said : List ℕ
  pub ends : Ends (bytes_of_words request.words.now) seen (sink_seen [] printed) (sink_seen [] said) status
  pub handed : IsHandedOver (contents_after request.wanted.bytes.now) printed said before after

-- the statuses of a call in memory: those of a program but 7, since no sink fails, and 9 and 10 where no call is made
abbrev pub IsCallStatus : ℕ → Type 0
IsCallStatus status = (status < 7) ⊎ ((status ≡ 8) ⊎ ((status ≡ 9) ⊎ (status ≡ 10)))

-- the status of a call that is not made
abbrev pub error_status : CallError → ℕ
error_status CallErrors.Memory = 8
error_status CallErrors.NotUtf8 = 9
error_status CallErrors.Twice = 10
