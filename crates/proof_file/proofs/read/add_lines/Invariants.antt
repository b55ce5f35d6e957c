use Rattle.std.proofs.Common.{◌≡◌, length}
use Rattle.proof_file.specs.Drafts.{IsDraftAt}
use Rattle.proof_file.specs.Reader.{Where, Stands}
use Rattle.proof_file.proofs.read.add_lines.Given as goal

abbrev pub invariant-lines : goal.invariant-lines
invariant-lines l = (l.lines.whole.now ≡ l.fn.bytes) × ((w : Where) × (Stands l.lines w × IsDraftAt l.draft w))

abbrev pub decreases-lines : goal.decreases-lines
decreases-lines l = length l.lines.rest.now
