use Rattle.std.proofs.Common.{refl}
use Rattle.rdf_terms.proofs.TermReading.{label_whole, number_printed}
use Rattle.rdf_terms.proofs.reader.is_printed.Goals as goal

pub returns-in-Label-clause-whole : goal.returns-in-Label-clause-whole
returns-in-Label-clause-whole c = label_whole c.args.text.now c.args.name.now c.in-Label.label c.utf8.text c.in-Label.is c.requires

pub returns-in-Fresh-clause-printed : goal.returns-in-Fresh-clause-printed
returns-in-Fresh-clause-printed c = (λ h. number_printed c.args.text.now c.args.name.now c.in-Fresh.field-0 c.utf8.text c.in-Fresh.is c.requires, λ e. refl)
