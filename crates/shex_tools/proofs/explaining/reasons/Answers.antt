use Rattle.std.proofs.Common.{◌∙◌, subst}
use Rattle.std.specs.Prelude.{Contains}
use Rattle.explanations.specs.Explanations.{IsExplanation}
use Rattle.schema_tree.proofs.Strata.{stratum_stratified}
use Rattle.typing_refiner.specs.Refinement.{known_by_it}
use Rattle.shex_tools.proofs.Asking.{entries}
use Rattle.shex_tools.proofs.Reasoned.{are_reasons}
use Rattle.shex_tools.proofs.explaining.reasons.Goals as goal

pub refine-requires-clause-stratified : goal.refine-requires-clause-stratified
refine-requires-clause-stratified c = stratum_stratified c.args.holding.now.schema c.args.holding.now.strata c.requires.strata

pub explain-requires-clause-refuted : goal.explain-requires-clause-refuted
explain-requires-clause-refuted c =
    let h = c.args.holding.now in
    let (known, refined, same) = c.in_ok-refined.ensures.verdicts in
    c.refined_cannot_match.ensures h.schema h.terms h.graph.triples h.strata c.args.asked.now.pairs c.args.budget known (known_by_it c.in_ok-refined.refined) refined same

pub explain-requires-clause-asked : goal.explain-requires-clause-asked
explain-requires-clause-asked c = λ a there.
    entries c.args.holding.now c.args.asked.now.associations.items c.args.asked.now.pairs c.args.budget c.requires a
    (subst (λ xs. Contains xs a) c.as_slice-associations.ensures.value there)

pub returns : goal.returns
returns c =
    let h = c.args.holding.now in
    let xs = c.args.asked.now.associations.items in
    let view = known_by_it c.in_ok-refined.refined in
    are_reasons h xs c.args.asked.now.pairs c.args.budget c.requires c.sure_answers_are_true.ensures c.blocks_are_true.ensures
    c.refinement_is_complete.ensures.pairs c.reasons_are_whole.ensures.removed c.reasons_are_true.ensures view c.in_ok-explanation.explanation c.of.result
    c.in_ok-refined.ensures.verdicts c.in_ok-refined.ensures.true_by_all
    (subst (λ ys. IsExplanation h.schema h.terms view h.graph.triples ys c.in_ok-explanation.explanation) c.as_slice-associations.ensures.value c.in_ok-explanation.ensures.told)
    (λ width widths. c.of.ensures ∙ c.in_ok-wide.ensures ∙ c.in_ok-refined.ensures.wide width widths)
