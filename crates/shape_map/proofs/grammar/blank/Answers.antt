use Rattle.std.proofs.Common.{ℕ, List, Ok, false, ap, subst, ◌∙◌}
use Rattle.std.proofs.lemmas.Result.{err_from_is_err_and}
use Rattle.rdf_terms.specs.Names.{IsNameOf}
use Rattle.rdf_terms.specs.declared.terms.Name.{Name}
use Rattle.rdf_terms.specs.declared.terms.Term.TheVariants.{Blank}
use Rattle.rdf_cursor.specs.Cursors.{ahead}
use Rattle.shape_map.specs.Meanings.{blank_of}
use Rattle.term_tokens.specs.Meanings.{name_of}
use Rattle.term_tokens.proofs.Labels.{labelled_ok, labelled_stops}
use Rattle.term_tokens.proofs.Meanings.{name_is}
use Rattle.shape_map.proofs.grammar.blank.Goals as goal

pub returns-in_err-label-clause-gives : goal.returns-in_err-label-clause-gives
unfolding blank_of
returns-in_err-label-clause-gives c =
    let p = err_from_is_err_and c.from_residual.result c.from_residual.ensures.1 in
    rw (p.1, p.2) (labelled_stops (λ name. Blank (name_of name)) c.in_err-label.field-0.0 false _ _ c.in_err-label.ensures.gives)

pub returns-clause-gives : goal.returns-clause-gives
unfolding blank_of
returns-clause-gives c =
    let is = subst (λ (text : List ℕ). IsNameOf text c.in_ok-name.name) c.as_str.ensures.characters c.in_ok-name.ensures in
    labelled_ok (λ name. Blank (name_of name)) false c.in_ok-label.label _ _ c.in_ok-label.ensures.gives
    ∙ ap (λ (name : Name). Ok (Blank name, ahead c.label.new.c)) (name_is c.in_ok-label.label c.in_ok-name.name is)
