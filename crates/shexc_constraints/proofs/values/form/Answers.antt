use Rattle.shexc_constraints.proofs.Texts.{no_form_iri, no_form_blank}
use Rattle.shexc_constraints.proofs.values.form.Goals as goal

pub returns-in-Iri : goal.returns-in-Iri
returns-in-Iri c = no_form_iri _ c.args.term.now _ c.in-Iri.is c.from_str.ensures

pub returns-in-Blank : goal.returns-in-Blank
returns-in-Blank c = no_form_blank _ c.args.term.now _ c.in-Blank.is c.from_str-in-Blank.ensures
