use Rattle.std.proofs.Common.{◌≡◌, ◌++◌, map, take}
use Rattle.typing_session.specs.Uses.{use_of}
use Rattle.typing_session.proofs.uses.push_link.Given as goal

abbrev pub invariant-loop-value : goal.invariant-loop-value
invariant-loop-value l = l.found.items ≡ l.initial.found.items ++ map (use_of l.shape l.link.occ) (take l.value-index l.link.shapes)
