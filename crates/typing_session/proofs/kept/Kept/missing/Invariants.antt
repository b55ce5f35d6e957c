use Rattle.std.proofs.Common.{◌≡◌, ◌++◌, drop}
use Rattle.typing_session.specs.Kept.{fresh_of}
use Rattle.typing_session.proofs.kept.Kept.missing.Given as goal

abbrev pub invariant-loop-pair : goal.invariant-loop-pair
invariant-loop-pair l = fresh_of l.self l.pairs ≡ l.found.items ++ fresh_of l.self (drop l.pair-index l.pairs)
