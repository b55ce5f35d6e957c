use Rattle.demand.proofs.PairOrder.{pairs_once}
use Rattle.typing_refiner.specs.Refinement.{known_by_it}
use Rattle.typing_session.proofs.Asked.{fresh_kept, kept_for}
use Rattle.typing_session.proofs.Keeping.{key_none}
use Rattle.typing_session.proofs.answering.keep_fresh.Goals as goal

pub refine_from-requires-clause-distinct : goal.refine_from-requires-clause-distinct
refine_from-requires-clause-distinct g c = pairs_once c.args.question.now.terms.now c.args.fresh.now c.requires.sorted

pub refine_from-requires-clause-kept : goal.refine_from-requires-clause-kept
refine_from-requires-clause-kept g c =
    fresh_kept c.args.question.now.schema.now c.args.question.now.terms.now c.args.question.now.graph.now.triples c.args.question.now.strata.now c.args.question.now.budget c.args.kept.now c.args.fresh.now c.requires.whole c.requires.verdicts

pub keep_all-requires-clause-distinct : goal.keep_all-requires-clause-distinct
keep_all-requires-clause-distinct g c = pairs_once c.args.question.now.terms.now c.args.fresh.now c.requires.sorted

pub keep_all-requires-clause-new : goal.keep_all-requires-clause-new
keep_all-requires-clause-new g c = λ q d. key_none c.args.kept.now q (c.requires.apart q d)

pub returns-clause-kept : goal.returns-clause-kept
returns-clause-kept g c =
    kept_for c.args.question.now.schema.now c.args.question.now.terms.now c.args.question.now.graph.now.triples c.args.question.now.strata.now c.args.question.now.budget (known_by_it c.in_ok-found.found) c.args.fresh.now c.args.kept.now c.keep_all.new.self c.requires.verdicts
    (λ p v held is. c.in_ok-found.ensures.verdicts.0 p v held is) c.in_ok-keep_all.ensures.kept
