use Rattle.std.proofs.Common.{take}
use Rattle.shex_io.specs.Sure.{contents_of}
use Rattle.call_parts.specs.Given.{HoldsGiven}
use Rattle.call_parts.proofs.Holding.{HaveOwnNamesBefore}
use Rattle.call_parts.proofs.asked.files_of.Given as goal

abbrev pub invariant-loop-file : goal.invariant-loop-file
invariant-loop-file l = HoldsGiven (contents_of l.files) (take l.file-index l.given) × HaveOwnNamesBefore l.file-index l.given
