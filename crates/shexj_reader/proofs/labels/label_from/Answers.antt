use Rattle.std.proofs.Common.{ap, sym, codes, ◌∙◌, ◌++◌}
use Rattle.schema_documents.specs.declared.label.Label.TheVariants as Labels
use Rattle.shexj_reader.proofs.LabelTexts.{blank_label, iri_label}
use Rattle.shexj_reader.proofs.labels.label_from.Goals as goal

pub returns-in_ok-name-in-Some : goal.returns-in_ok-name-in-Some
returns-in_ok-name-in-Some c =
    ap Labels.Blank c.in_ok-name-in-Some.ensures
    ∙ blank_label c.args.text.now c.in-Some.name.now c.utf8.text (c.in-Some.ensures.cases.1.1 ∙ ap (λ z. codes "_:" ++ z) (sym c.in-Some.ensures.cases.2))

pub returns-in_ok-iri-in-None : goal.returns-in_ok-iri-in-None
returns-in_ok-iri-in-None c = ap Labels.Iri c.in_ok-iri-in-None.ensures ∙ iri_label c.args.text.now c.utf8.text c.in-None.ensures.cases
