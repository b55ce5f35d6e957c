use Rattle.std.proofs.Common.{◌≡◌, ◌++◌, map, take}
use Rattle.typing_session.specs.Uses.{user_at}
use Rattle.typing_session.proofs.users.push_users.Given as goal

abbrev pub invariant-loop-triple : goal.invariant-loop-triple
invariant-loop-triple l = l.found.items ≡ l.initial.found.items ++ map (user_at l.used) (take l.triple-index l.triples)
