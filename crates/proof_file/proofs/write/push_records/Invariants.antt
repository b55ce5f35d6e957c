use Rattle.std.proofs.Common.{◌≡◌, ◌++◌, take}
use Rattle.std.specs.List.{flat_map}
use Rattle.proof_file.specs.Text.{ended, line_text}
use Rattle.proof_file.specs.declared.line.Line.TheVariants as Lines
use Rattle.proof_file.proofs.write.push_records.Given as goal

abbrev pub invariant-loop-record : goal.invariant-loop-record
invariant-loop-record l = l.out.items ≡ l.fn.out.items ++ flat_map (λ r. ended (line_text (Lines.Record r))) (take l.record-index l.records)
