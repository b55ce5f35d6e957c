use Rattle.std.proofs.Common.{refl}
use Rattle.rdf_terms.proofs.TermReading.{bracketless, bracketed}
use Rattle.rdf_terms.proofs.reader.within_brackets.Goals as goal

pub returns-in_err-strip_prefix : goal.returns-in_err-strip_prefix
returns-in_err-strip_prefix c = rw c.from_residual.ensures (bracketless c.args.text.now c.strip_prefix.result c.strip_prefix.ensures.cases c.in_err-strip_prefix.was)

pub returns : goal.returns
returns c = bracketed c.args.text.now c.in_ok-strip_prefix.field-0.now c.strip_prefix.result c.in_ok-strip_prefix.field-0 c.strip_prefix.ensures.cases c.in_ok-strip_prefix.was refl c.strip_suffix.result c.strip_suffix.ensures.cases
