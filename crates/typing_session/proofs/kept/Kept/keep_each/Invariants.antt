use Rattle.std.proofs.Common.{take}
use Rattle.typing_session.specs.Kept.{Gains}
use Rattle.typing_session.proofs.kept.Kept.keep_each.Given as goal

abbrev pub invariant-loop-pair : goal.invariant-loop-pair
invariant-loop-pair g l = Gains (g.K.View.known l.found) (take l.pair-index l.pairs) l.fn.self l.self
