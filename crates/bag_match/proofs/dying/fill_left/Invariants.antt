use Rattle.std.proofs.Common.{◌≡◌, ◌<◌, ◌++◌, ℕ, slice_index}
use Rattle.std.specs.Prelude.{slice_get}
use Rattle.schema_tree.specs.States.{fitting}
use Rattle.bag_match.proofs.Filled.{inward}
use Rattle.bag_match.proofs.dying.fill_left.Given as goal

abbrev pub invariant-loop-i : goal.invariant-loop-i
invariant-loop-i l = (j : ℕ) → j < l.i → slice_index l.left j ≡ fitting l.node (l.outs ++ inward l.ins) (slice_get l.occs j)
