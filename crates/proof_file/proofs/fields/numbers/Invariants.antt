use Rattle.std.proofs.Common.{◌≡◌, ◌++◌, map}
use Rattle.std.specs.Fmt.{decimal}
use Rattle.std.specs.List.{AllByRecursion}
use Rattle.proof_file.specs.Reading.{fields_left, measure}
use Rattle.proof_file.specs.Text.{IsNumber}
use Rattle.proof_file.proofs.fields.numbers.Given as goal

abbrev pub invariant-loop-left : goal.invariant-loop-left
invariant-loop-left l = record { joined : map decimal l.numbers.items ++ fields_left l.separator l.left ≡ fields_left l.separator l.fn.text; good : AllByRecursion IsNumber l.numbers.items }

abbrev pub decreases-loop-left : goal.decreases-loop-left
decreases-loop-left l = measure l.left
