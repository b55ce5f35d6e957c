-- What files and sinks in memory hold, and which of their calls are to fail.
use Rattle.std.specs.Prelude.{ℕ, List, ◌≡◌, Contains, Option, string_bytes}
use Rattle.shex_io.specs.Contents.{bytes_under}
use Rattle.shex_io.specs.declared.files.Act.{Act}
use Rattle.shex_io.specs.declared.memory.MemFiles.{MemFiles}
use Rattle.shex_io.specs.declared.memory.MemSink.{MemSink}

-- the bytes that a name holds
abbrev pub contents_of : MemFiles → List ℕ → Option (List ℕ)
contents_of files = bytes_under files.contents

-- the numbers of the calls that are to fail
abbrev pub failing_calls : MemFiles → List ℕ
failing_calls files = files.calls.fail.items

-- how many calls were made, which is the number of the next
abbrev pub calls_made : MemFiles → ℕ
calls_made files = files.calls.made

-- the next call is listed to fail
abbrev pub FailsNext : MemFiles → Type 0
FailsNext files = Contains (failing_calls files) (calls_made files)

-- how many bytes the last fetch took
abbrev pub taken_of : MemFiles → ℕ
taken_of files = files.taken

-- how many calls failed
abbrev pub faults_of : MemFiles → ℕ
faults_of files = files.faults.count

-- the name in the call that failed last
abbrev pub blame_of : MemFiles → List ℕ
blame_of files = string_bytes files.faults.blame

-- the kind of the call that failed last
abbrev pub act_of : MemFiles → Act
act_of files = files.faults.act

-- nothing but the contents changed
abbrev pub ChangesContentsOnly : MemFiles → MemFiles → Type 0
ChangesContentsOnly old new = new ≡ record old { contents = new.contents }

-- the bytes that the sink got
abbrev pub bytes_of : MemSink → List ℕ
bytes_of sink = sink.bytes.items

-- the numbers of the puts that are to fail
abbrev pub failing_puts : MemSink → List ℕ
failing_puts sink = sink.calls.fail.items

-- how many puts were made, which is the number of the next
abbrev pub puts_made : MemSink → ℕ
puts_made sink = sink.calls.made

-- the next put is listed to fail
abbrev pub FailsNextPut : MemSink → Type 0
FailsNextPut sink = Contains (failing_puts sink) (puts_made sink)

-- how many puts failed
abbrev pub failed_puts : MemSink → ℕ
failed_puts sink = sink.faults
