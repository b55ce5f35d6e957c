-- What files and sinks in memory that do not fail hold.
use Rattle.std.specs.Prelude.{ℕ, List, ◌≡◌, Option, string_bytes}
use Rattle.shex_io.specs.Contents.{bytes_under}
use Rattle.shex_io.specs.declared.files.Act.{Act}
use Rattle.shex_io.specs.declared.sure.SureFiles.{SureFiles}
use Rattle.shex_io.specs.declared.sure.SureSink.{SureSink}

-- the bytes that a name holds
abbrev pub contents_of : SureFiles → List ℕ → Option (List ℕ)
contents_of files = bytes_under files.contents

-- how many bytes the last fetch took
abbrev pub taken_of : SureFiles → ℕ
taken_of files = files.taken

-- how many fetches failed
abbrev pub faults_of : SureFiles → ℕ
faults_of files = files.faults.count

-- the name in the call that failed last
abbrev pub blame_of : SureFiles → List ℕ
blame_of files = string_bytes files.faults.blame

-- the kind of the call that failed last
abbrev pub act_of : SureFiles → Act
act_of files = files.faults.act

-- nothing but the contents changed
abbrev pub ChangesContentsOnly : SureFiles → SureFiles → Type 0
ChangesContentsOnly old new = new ≡ record old { contents = new.contents }

-- the bytes that the sink got
abbrev pub bytes_of : SureSink → List ℕ
bytes_of sink = sink.bytes.items
