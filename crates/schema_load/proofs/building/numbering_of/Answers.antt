use Rattle.std.proofs.Common.{◌≤◌, get_or, sym, subst}
use Rattle.lists.specs.Distinct.{AreDistinct}
use Rattle.schema_load.specs.Steps.{HasAll}
use Rattle.schema_load.proofs.Apart.{entries_apart}
use Rattle.schema_load.proofs.Built.{entries_are, entries_few, entries_read}
use Rattle.schema_load.proofs.Levels.{depths_low}
use Rattle.schema_load.proofs.building.numbering_of.Goals as goal

pub numbers_of-requires-clause-all : goal.numbers_of-requires-clause-all
numbers_of-requires-clause-all c = subst (λ os. HasAll c.args.parts.now os) (sym c.as_slice-3.ensures.value) c.requires.survey.all

pub numbers_of-requires-clause-entries : goal.numbers_of-requires-clause-entries
numbers_of-requires-clause-entries c =
    entries_are c.args.parts.now c.args.survey.now.depths.items c.as_slice-4.result.now (entries_read c.args.parts.now c.as_slice.result.now c.args.survey.now.depths.items c.in_ok-entries.entries.items c.as_slice-4.result.now c.as_slice.ensures.value c.as_slice-4.ensures.value c.in_ok-entries.ensures)

pub numbers_of-requires-clause-distinct : goal.numbers_of-requires-clause-distinct
numbers_of-requires-clause-distinct c =
    subst AreDistinct (sym (entries_read c.args.parts.now c.as_slice.result.now c.args.survey.now.depths.items c.in_ok-entries.entries.items c.as_slice-4.result.now c.as_slice.ensures.value c.as_slice-4.ensures.value c.in_ok-entries.ensures))
    (entries_apart c.args.parts.now c.args.survey.now.depths.items 256)

pub numbers_of-requires-clause-few : goal.numbers_of-requires-clause-few
numbers_of-requires-clause-few c =
    entries_few c.args.parts.now c.args.survey.now.depths.items c.as_slice-4.result.now (entries_read c.args.parts.now c.as_slice.result.now c.args.survey.now.depths.items c.in_ok-entries.entries.items c.as_slice-4.result.now c.as_slice.ensures.value c.as_slice-4.ensures.value c.in_ok-entries.ensures)
    c.requires.survey.depths c.requires.survey.meets.not_deep c.requires.few

pub entries_of-requires-clause-few : goal.entries_of-requires-clause-few
entries_of-requires-clause-few c = λ q.
    subst (λ ds. get_or ds q 0 ≤ 256) (sym c.as_slice.ensures.value) (depths_low c.args.parts.now c.args.survey.now.depths.items c.requires.survey.depths c.requires.survey.meets.not_deep q)
