use Rattle.schema_load.specs.Building.{number_in}
use Rattle.schema_load.proofs.Entered.{AreEntered}
use Rattle.schema_load.proofs.exprs.exprs_of.Given as goal

abbrev pub invariant-loop-place : goal.invariant-loop-place
invariant-loop-place l = AreEntered l.fn.parts.items (number_in l.numbers) l.entries l.parts.items l.exprs.items l.place-index
