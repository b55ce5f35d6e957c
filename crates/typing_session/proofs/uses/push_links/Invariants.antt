use Rattle.std.proofs.Common.{◌≡◌, ◌++◌, take}
use Rattle.std.specs.List.{flat_map}
use Rattle.typing_session.specs.Uses.{uses_of}
use Rattle.typing_session.proofs.uses.push_links.Given as goal

abbrev pub invariant-loop-link : goal.invariant-loop-link
invariant-loop-link l = l.found.items ≡ l.initial.found.items ++ flat_map (uses_of l.shape) (take l.link-index l.links)
