use Rattle.rdf_terms.proofs.TermReading.{name_missed}
use Rattle.rdf_terms.proofs.reader.read_name.Goals as goal

pub returns-else-is_printed : goal.returns-else-is_printed
returns-else-is_printed c = name_missed c.args.text.now c.in_ok-name.name c.is_printed.result c.in_ok-name.ensures c.is_printed.ensures.printed c.if-is_printed.false
