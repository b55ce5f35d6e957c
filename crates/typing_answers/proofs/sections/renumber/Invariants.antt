use Rattle.std.proofs.Common.{◌≡◌, ◌++◌, drop, map, take}
use Rattle.typing_answers.specs.Numbering.{moved}
use Rattle.typing_answers.proofs.sections.renumber.Given as goal

abbrev pub invariant-loop-record : goal.invariant-loop-record
invariant-loop-record l = l.record-items ≡ map (moved l.places) (take l.record-index l.fn.records.items) ++ drop l.record-index l.fn.records.items
