use Rattle.std.proofs.Common.{subst, sym}
use Rattle.schema_tree.specs.Needs.{HoldNeeds}
use Rattle.typing_refiner.proofs.Tops.{ok_accepted, ok_by_all, ok_by_each, ok_fine, ok_shown, ok_true, ok_wide}
use Rattle.typing_refiner.proofs.refining.refine.Goals as goal

pub returns-clause-true_verdicts : goal.returns-clause-true_verdicts
returns-clause-true_verdicts c =
    ok_true c.args.schema.now c.args.terms.now c.args.graph.now.triples c.args.strata.now c.args.budget c.args.pairs.now c.list-list.result.now c.refine_alone.result c.list-list.ensures.list
    c.requires.loaded c.refinement_is_true.ensures.whole c.refine_alone.ensures.refined

pub returns-clause-only_wide : goal.returns-clause-only_wide
returns-clause-only_wide c =
    ok_wide c.args.schema.now c.args.terms.now c.args.graph.now.triples c.args.strata.now c.args.budget c.args.pairs.now c.list-list.result.now c.refine_alone.result c.list-list.ensures.list
    c.requires.loaded c.refinement_is_complete.ensures.pairs c.width_is_one.ensures.one c.requires.stratified c.requires.closed c.refine_alone.ensures.refined

pub returns-clause-true_by_all : goal.returns-clause-true_by_all
returns-clause-true_by_all c =
    ok_by_all c.args.schema.now c.args.terms.now c.args.graph.now.triples c.args.strata.now c.args.budget c.args.pairs.now c.list-list.result.now c.refine_alone.result c.list-list.ensures.list
    c.requires.loaded c.refinement_is_true.ensures.whole c.typing_is_one.ensures.exists c.strata_are_alike.ensures.typings c.requires.stratified c.refine_alone.ensures.refined

pub returns-clause-by_all : goal.returns-clause-by_all
returns-clause-by_all c =
    ok_by_each c.args.schema.now c.args.terms.now c.args.graph.now.triples c.args.strata.now c.args.budget c.args.pairs.now c.list-list.result.now c.refine_alone.result c.list-list.ensures.list
    c.requires.loaded c.strata_are_independent.ensures.refinement c.requires.stratified c.refine_alone.ensures.refined

pub returns-clause-records : goal.returns-clause-records
returns-clause-records c = λ wanted.
    ok_shown c.args.schema.now c.args.terms.now c.args.graph.now.triples c.args.strata.now c.args.budget c.args.pairs.now c.list-list.result.now c.refine_alone.result
    c.list-list.ensures.list (c.refine_alone.ensures.shown wanted)

pub returns-clause-accepted : goal.returns-clause-accepted
returns-clause-accepted c = λ wanted.
    ok_accepted c.args.schema.now c.args.terms.now c.args.graph.now.triples c.args.strata.now c.args.budget c.args.pairs.now c.refine_alone.result c.requires.stratified
    (returns-clause-records c wanted)

pub returns-clause-fine : goal.returns-clause-fine
returns-clause-fine c = λ wanted.
    ok_fine c.args.schema.now c.args.terms.now c.args.graph.now.triples c.args.strata.now c.args.budget c.args.pairs.now c.refine_alone.result c.requires.loaded c.len-held.result
    c.len-held.ensures.count c.len-held.ensures.few c.list-list.ensures.few (returns-clause-records c wanted)

pub refine_alone-requires-clause-closed : goal.refine_alone-requires-clause-closed
refine_alone-requires-clause-closed c = subst (HoldNeeds c.args.schema.now c.args.graph.now.triples) (sym c.list-list.ensures.list) c.requires.closed
