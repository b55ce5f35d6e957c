use Rattle.std.proofs.Common.{take}
use Rattle.demand.specs.Closing.{Grows}
use Rattle.typing_session.proofs.met.Met.put_all.Given as goal

abbrev pub invariant-loop-pair : goal.invariant-loop-pair
invariant-loop-pair l = Grows l.fn.self (take l.pair-index l.pairs) l.self
