use Rattle.std.proofs.Common.{◌≡◌, ◌++◌, take}
use Rattle.std.specs.List.{flat_map}
use Rattle.proof_file.specs.Text.{lines_text, section_lines}
use Rattle.proof_file.proofs.write.push_sections.Given as goal

abbrev pub invariant-loop-section : goal.invariant-loop-section
invariant-loop-section l = l.out.items ≡ l.fn.out.items ++ flat_map (λ x. lines_text (section_lines x)) (take l.section-index l.sections)
