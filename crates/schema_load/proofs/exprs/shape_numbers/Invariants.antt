use Rattle.std.proofs.Common.{◌≡◌, length, take}
use Rattle.std.specs.Prelude.{filter}
use Rattle.schema_load.specs.Parts.{is_shape}
use Rattle.schema_load.proofs.Entered.{AreCountedTo}
use Rattle.schema_load.proofs.exprs.shape_numbers.Given as goal

abbrev pub invariant-loop-place : goal.invariant-loop-place
invariant-loop-place l = AreCountedTo l.parts l.numbers.items l.place × (l.before ≡ length (filter is_shape (take l.place l.parts)))
