use Rattle.schema_load.proofs.Numbering.{AreNumberedTo}
use Rattle.schema_load.proofs.numbers.number_entries.Given as goal

abbrev pub invariant-loop-number : goal.invariant-loop-number
invariant-loop-number l = AreNumberedTo l.entries l.count l.numbers.items l.number
