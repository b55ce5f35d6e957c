use Rattle.std.proofs.Common.{◌≡◌, ◌++◌, take}
use Rattle.std.specs.List.{flat_map}
use Rattle.typing_session.specs.Uses.{users_by}
use Rattle.typing_session.proofs.users.push_by_uses.Given as goal

abbrev pub invariant-loop-used : goal.invariant-loop-used
invariant-loop-used l = l.found.items ≡ l.initial.found.items ++ flat_map (users_by l.terms l.graph.triples l.node) (take l.used-index l.uses)
