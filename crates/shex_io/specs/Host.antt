-- The account of faults of files and streams of the machine, which tell no contents.
use Rattle.std.specs.Prelude.{ℕ, List, string_bytes}
use Rattle.shex_io.specs.declared.host.DiskFiles.{DiskFiles}
use Rattle.shex_io.specs.declared.host.StdSink.{StdSink}

-- how many calls failed
abbrev pub disk_faults : {R : Type 0} → DiskFiles R → ℕ
disk_faults files = files.faults.count

-- the name in the call that failed last
abbrev pub disk_blame : {R : Type 0} → DiskFiles R → List ℕ
disk_blame files = string_bytes files.faults.blame

-- the stream that a sink writes to
abbrev pub stream_of : {W : Type 0} → StdSink W → W
stream_of sink = sink.stream

-- how many puts failed
abbrev pub stream_faults : {W : Type 0} → StdSink W → ℕ
stream_faults sink = sink.faults
