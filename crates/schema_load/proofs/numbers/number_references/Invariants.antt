use Rattle.schema_load.proofs.Numbering.{AreReferredTo}
use Rattle.schema_load.proofs.numbers.number_references.Given as goal

abbrev pub invariant-loop-done : goal.invariant-loop-done
invariant-loop-done l = AreReferredTo l.parts l.order l.fn.numbers.items l.numbers.items l.done
