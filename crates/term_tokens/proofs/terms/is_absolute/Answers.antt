use Rattle.std.proofs.Common.{ap}
use Rattle.term_tokens.proofs.Texts.{has_scheme}
use Rattle.term_tokens.proofs.terms.is_absolute.Goals as goal

pub returns : goal.returns
returns c = has_scheme _ _ c.args.iri.now (ap (λ p. p.scheme) c.split.ensures.parts) c.is_some.ensures
