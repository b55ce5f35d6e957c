use Rattle.typing_refiner.proofs.Others.{ok_by_each, ok_true_by_all, ok_unknown, ok_verdicts}
use Rattle.typing_refiner.proofs.Tops.{ok_accepted, ok_fine}
use Rattle.typing_refiner.proofs.refining.Question.refine_from.Goals as goal

pub returns-clause-verdicts : goal.returns-clause-verdicts
returns-clause-verdicts g c =
    ok_verdicts c.args.self.now.schema.now c.args.self.now.terms.now c.args.self.now.graph.now.triples c.args.self.now.strata.now c.args.self.now.budget c.args.pairs.now c.requires.posed.loaded c.requires.posed.stratified
    (g.K.View.known c.args.kept.now) c.refine_over.result c.refinement_is_local.ensures.kept c.requires.kept c.requires.distinct
    c.refine_over.ensures.refined c.refine_over.ensures.table

pub returns-clause-only_wide : goal.returns-clause-only_wide
returns-clause-only_wide g c =
    ok_unknown c.args.self.now.schema.now c.args.self.now.terms.now c.args.self.now.graph.now.triples c.args.self.now.strata.now c.args.self.now.budget c.args.pairs.now c.requires.posed.loaded c.requires.posed.stratified
    c.refine_over.result c.verdict_is_one.ensures.wide (returns-clause-verdicts g c)

pub returns-clause-true_by_all : goal.returns-clause-true_by_all
returns-clause-true_by_all g c =
    ok_true_by_all c.args.self.now.schema.now c.args.self.now.terms.now c.args.self.now.graph.now.triples c.args.self.now.strata.now c.args.self.now.budget c.args.pairs.now c.requires.posed.loaded c.requires.posed.stratified
    c.refine_over.result c.verdict_is_one.ensures.true_verdict c.typing_is_one.ensures.exists c.strata_are_alike.ensures.typings (returns-clause-verdicts g c)

pub returns-clause-by_all : goal.returns-clause-by_all
returns-clause-by_all g c =
    ok_by_each c.args.self.now.schema.now c.args.self.now.terms.now c.args.self.now.graph.now.triples c.args.self.now.strata.now c.args.self.now.budget c.args.pairs.now c.requires.posed.loaded c.requires.posed.stratified
    c.refine_over.result c.strata_are_independent.ensures.verdict (returns-clause-verdicts g c)

pub returns-clause-accepted : goal.returns-clause-accepted
returns-clause-accepted g c = λ wanted closed.
    ok_accepted c.args.self.now.schema.now c.args.self.now.terms.now c.args.self.now.graph.now.triples c.args.self.now.strata.now c.args.self.now.budget c.args.pairs.now c.refine_over.result c.requires.posed.stratified
    (c.refine_over.ensures.shown wanted closed)

pub returns-clause-fine : goal.returns-clause-fine
returns-clause-fine g c = λ wanted closed.
    ok_fine c.args.self.now.schema.now c.args.self.now.terms.now c.args.self.now.graph.now.triples c.args.self.now.strata.now c.args.self.now.budget c.args.pairs.now c.refine_over.result c.requires.posed.loaded c.len-held.result
    c.len-held.ensures.count c.len-held.ensures.few c.requires.few (c.refine_over.ensures.shown wanted closed)
