use Rattle.std.proofs.Common.{take}
use Rattle.value_sets.specs.Indexed.{IsByKind}
use Rattle.value_sets.proofs.index.ValuesByKind.of.Given as goal

abbrev pub invariant-loop-place : goal.invariant-loop-place
invariant-loop-place l = IsByKind (take l.place l.values) l.kinds
