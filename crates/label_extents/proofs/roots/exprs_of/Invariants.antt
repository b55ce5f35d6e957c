use Rattle.std.proofs.Common.{◌≡◌, take}
use Rattle.label_extents.specs.Members.{exprs_of}
use Rattle.label_extents.proofs.roots.exprs_of.Given as goal

abbrev pub invariant-loop-place : goal.invariant-loop-place
invariant-loop-place l = l.exprs.items ≡ exprs_of (take l.place l.labels)
