use Rattle.std.proofs.Common.{◌≡◌, ◌++◌, map}
use Rattle.typing_answers.specs.Numbering.{moved_section}
use Rattle.typing_answers.proofs.sections.moved_sections.Given as goal

abbrev pub invariant-loop-section : goal.invariant-loop-section
invariant-loop-section l = record {
  all : l.fn.sections.items ≡ l.yielded ++ l.section-iterator.rest.items;
  moved : l.renumbered.items ≡ map (moved_section l.places) l.yielded;
}
