use Rattle.std.proofs.Common.{ℕ, List, Ok, ap, subst}
use Rattle.rdf_terms.specs.Names.{IsNameOf}
use Rattle.rdf_terms.specs.declared.terms.Name.{Name}
use Rattle.rdf_terms.specs.declared.terms.Term.TheVariants.{Blank}
use Rattle.rdf_cursor.specs.Cursors.{ahead}
use Rattle.term_tokens.proofs.Meanings.{name_is}
use Rattle.session_script.specs.Reading.{blank}
use Rattle.session_script.proofs.grammar.blank.Goals as goal

pub returns-clause-gives : goal.returns-clause-gives
unfolding blank
returns-clause-gives c =
    let is = subst (λ (text : List ℕ). IsNameOf text c.in_ok-name.name) c.as_str.ensures.characters c.in_ok-name.ensures in
    rw (c.in_ok-label.ensures.gives) (ap (λ (name : Name). Ok (Blank name, ahead c.label.new.c)) (name_is c.in_ok-label.label c.in_ok-name.name is))
