use Rattle.std.proofs.Common.{false}
use Rattle.std.proofs.lemmas.Result.{err_from_is_err_and}
use Rattle.schema_documents.specs.declared.label.Label.TheVariants as label
use Rattle.schema_tree.specs.declared.schema.Target.TheVariants as target
use Rattle.shape_map.specs.Meanings.{blank_target_of}
use Rattle.term_tokens.proofs.Labels.{labelled_ok, labelled_stops}
use Rattle.shape_map.proofs.grammar.blank_target.Goals as goal

pub returns-in_err-label-clause-gives : goal.returns-in_err-label-clause-gives
unfolding blank_target_of
returns-in_err-label-clause-gives c =
    let p = err_from_is_err_and c.from_residual.result c.from_residual.ensures.1 in
    rw (p.1, p.2) (labelled_stops (λ name. target.Label (label.Blank name)) c.in_err-label.field-0.0 false _ _ c.in_err-label.ensures.gives)

pub returns-clause-gives : goal.returns-clause-gives
unfolding blank_target_of
returns-clause-gives c = labelled_ok (λ name. target.Label (label.Blank name)) false c.in_ok-label.label _ _ c.in_ok-label.ensures.gives
