use Rattle.std.proofs.Common.{◌∙◌, refl, sym, subst}
use Rattle.std.specs.List.{AllZip}
use Rattle.lists.specs.Distinct.{AreDistinct}
use Rattle.schema_load.specs.Building.{number_in}
use Rattle.schema_load.specs.Stands.{IsEntryAt}
use Rattle.schema_load.specs.Surveys.{IsNumbering, IsOutline}
use Rattle.schema_load.proofs.Apart.{entries_apart}
use Rattle.schema_load.proofs.Built.{built_of, entries_are}
use Rattle.schema_load.proofs.building.schema_of.Goals as goal

pub exprs_of-requires-clause-entries : goal.exprs_of-requires-clause-entries
exprs_of-requires-clause-entries c =
    let numbering = subst (λ ps. IsNumbering ps c.args.surveyed.survey.depths.items c.in_ok-numbering.numbering) c.as_slice.ensures.value c.in_ok-numbering.ensures in
    entries_are c.args.surveyed.parts.items c.args.surveyed.survey.depths.items c.as_slice-5.result.now (c.as_slice-5.ensures.value ∙ numbering.entries)

pub exprs_of-requires-clause-distinct : goal.exprs_of-requires-clause-distinct
exprs_of-requires-clause-distinct c =
    let numbering = subst (λ ps. IsNumbering ps c.args.surveyed.survey.depths.items c.in_ok-numbering.numbering) c.as_slice.ensures.value c.in_ok-numbering.ensures in
    subst AreDistinct (sym (c.as_slice-5.ensures.value ∙ numbering.entries)) (entries_apart c.args.surveyed.parts.items c.args.surveyed.survey.depths.items 256)

pub returns : goal.returns
returns c = λ docs e.
    let numbering = subst (λ ps. IsNumbering ps c.args.surveyed.survey.depths.items c.in_ok-numbering.numbering) c.as_slice.ensures.value c.in_ok-numbering.ensures in
    let outline_read = subst (λ ps. IsOutline c.args.terms.now ps (number_in c.as_slice-3.result.now) c.in_ok-outline.outline) c.as_slice-2.ensures.value c.in_ok-outline.ensures in
    let outline = subst (λ ns. IsOutline c.args.terms.now c.args.surveyed.parts.items (number_in ns) c.in_ok-outline.outline) c.as_slice-3.ensures.value outline_read in
    let exprs_read = subst (λ ns. AllZip (IsEntryAt c.args.terms.now c.args.surveyed.parts.items (number_in ns)) c.as_slice-5.result.now c.in_ok-exprs.exprs.items) c.as_slice-4.ensures.value (c.in_ok-exprs.ensures c.args.terms.now) in
    let exprs = subst (λ es. AllZip (IsEntryAt c.args.terms.now c.args.surveyed.parts.items (number_in c.in_ok-numbering.numbering.numbers.items)) es c.in_ok-exprs.exprs.items) c.as_slice-5.ensures.value exprs_read in
    let exprs_kept = subst (λ xs. AllZip (IsEntryAt c.args.terms.now c.args.surveyed.parts.items (number_in c.in_ok-numbering.numbering.numbers.items)) c.in_ok-numbering.numbering.entries.items xs)
    (sym c.of.ensures) exprs in
    built_of docs c.args.surveyed.parts.items c.args.terms.now c.args.surveyed.survey c.in_ok-numbering.numbering c.in_ok-outline.outline
    (record { exprs = c.of.result; shapes = c.of-2.result; labels = c.in_ok-outline.outline.labels; start = c.in_ok-outline.outline.start })
    e c.requires.survey c.requires.few numbering outline exprs_kept c.of-2.ensures refl refl
