use Rattle.std.proofs.Common.{subst}
use Rattle.rdf_terms.specs.Names.{IsNameOf}
use Rattle.term_tokens.proofs.Meanings.{name_of_is, name_is}
use Rattle.term_tokens.proofs.laws.names_are_named.Goals as goal

pub returns : goal.returns
returns c = λ text name. (λ e. subst (IsNameOf text) e (name_of_is text), name_is text name)
