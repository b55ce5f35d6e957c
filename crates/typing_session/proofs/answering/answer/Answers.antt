use Rattle.typing_session.proofs.Asked.{answered, by_all, fresh_apart, fresh_whole, no_other, only_wide, true_answer}
use Rattle.typing_session.proofs.answering.answer.Goals as goal

pub keep_fresh-requires-clause-apart : goal.keep_fresh-requires-clause-apart
keep_fresh-requires-clause-apart g c =
    fresh_apart c.args.question.now.schema.now c.args.question.now.terms.now c.args.question.now.graph.now.triples c.args.node c.args.expr c.args.kept.now c.args.fresh.now c.requires.fresh

pub keep_fresh-requires-clause-whole : goal.keep_fresh-requires-clause-whole
keep_fresh-requires-clause-whole g c =
    fresh_whole c.args.question.now.schema.now c.args.question.now.terms.now c.args.question.now.graph.now.triples c.args.node c.args.expr c.args.kept.now c.args.fresh.now c.requires.fresh

pub returns-in-Ok-clause-answer : goal.returns-in-Ok-clause-answer
returns-in-Ok-clause-answer g c =
    answered c.args.question.now.schema.now c.args.question.now.terms.now c.args.question.now.graph.now.triples c.args.question.now.strata.now c.args.question.now.budget c.args.node c.args.expr c.args.fresh.now c.args.kept.now c.keep_fresh.new.kept c.requires.fresh
    c.in_ok-keep_fresh.ensures.kept c.len-after.ensures.distinct c.verdict_is_one.ensures.one c.verdict_is_one.ensures.some c.refinement_is_one.ensures.exists c.requires.posed.loaded c.in-Ok.verdict c.in-Ok.ensures.verdict

pub returns-in-Ok-clause-no_other : goal.returns-in-Ok-clause-no_other
returns-in-Ok-clause-no_other g c =
    no_other c.args.question.now.schema.now c.args.question.now.terms.now c.args.question.now.graph.now.triples c.args.question.now.strata.now c.args.question.now.budget c.args.node c.args.expr c.args.fresh.now c.args.kept.now c.keep_fresh.new.kept c.requires.fresh
    c.in_ok-keep_fresh.ensures.kept c.len-after.ensures.distinct c.verdict_is_one.ensures.one c.verdict_is_one.ensures.some c.refinement_is_one.ensures.exists c.requires.posed.loaded c.in-Ok.verdict c.in-Ok.ensures.verdict

pub returns-in-Ok-clause-by_all : goal.returns-in-Ok-clause-by_all
returns-in-Ok-clause-by_all g c =
    by_all c.args.question.now.schema.now c.args.question.now.terms.now c.args.question.now.graph.now.triples c.args.question.now.strata.now c.args.question.now.budget c.args.node c.args.expr c.refinement_is_one.ensures.exists c.strata_are_independent.ensures.refinement c.layers_are_meanings.ensures.sure_answers c.requires.posed.loaded c.requires.posed.stratified
    c.in-Ok.verdict (returns-in-Ok-clause-answer g c)

pub returns-in-Ok-clause-true_answer : goal.returns-in-Ok-clause-true_answer
returns-in-Ok-clause-true_answer g c =
    true_answer c.args.question.now.schema.now c.args.question.now.terms.now c.args.question.now.graph.now.triples c.args.question.now.strata.now c.args.question.now.budget c.args.node c.args.expr c.args.fresh.now c.args.kept.now c.keep_fresh.new.kept c.requires.fresh
    c.in_ok-keep_fresh.ensures.kept c.len-after.ensures.distinct c.verdict_is_one.ensures.one c.verdict_is_one.ensures.some c.refinement_is_one.ensures.exists c.requires.posed.loaded c.in-Ok.verdict c.in-Ok.ensures.verdict
    c.satisfaction_is_decided.ensures.expressions c.refinement_is_true.ensures.whole c.sure_is_true.ensures.sure

pub returns-in-Ok-clause-only_wide : goal.returns-in-Ok-clause-only_wide
returns-in-Ok-clause-only_wide g c =
    only_wide c.args.question.now.schema.now c.args.question.now.terms.now c.args.question.now.graph.now.triples c.args.question.now.strata.now c.args.question.now.budget c.args.node c.args.expr c.args.fresh.now c.args.kept.now c.keep_fresh.new.kept c.requires.fresh
    c.in_ok-keep_fresh.ensures.kept c.len-after.ensures.distinct c.verdict_is_one.ensures.one c.verdict_is_one.ensures.some c.refinement_is_one.ensures.exists c.requires.posed.loaded c.in-Ok.verdict c.in-Ok.ensures.verdict
    c.refinement_is_complete.ensures.expressions c.width_is_one.ensures.one c.requires.posed.stratified
