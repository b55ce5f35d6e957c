use Rattle.std.proofs.Common.{◌∙◌}
use Rattle.std.proofs.lemmas.Result.{IfOk-weaker}
use Rattle.schema_tree.specs.Entries.{shape_at}
use Rattle.schema_tree.specs.Places.{MayFail, MayHold}
use Rattle.bag_match.specs.Outcomes.{IsFound, IsOutcome}
use Rattle.bag_match.specs.declared.outcome.Outcome.TheVariants.{Never}
use Rattle.bag_match.proofs.Matched.{few_relevant, matched_of, none_of, placed_can, placed_if_ok, ticks_most}
use Rattle.bag_match.proofs.matching.match_pair.Goals as goal

pub outcome-requires-clause-few : goal.outcome-requires-clause-few
outcome-requires-clause-few g c =
    few_relevant c.args.terms.now c.args.graph.now.triples c.in-Some.shape.now c.args.pair.node c.in_ok-triples.triples c.len-held.result
    (c.in_ok-triples.ensures c.args.terms.now c.requires.sealed) c.len-held.ensures.count c.len-held.ensures.few

pub outcome-requires-clause-few_occurrences : goal.outcome-requires-clause-few_occurrences
outcome-requires-clause-few_occurrences g c =
    (c.requires.loaded.shapes c.args.pair.shape c.in-Some.shape.now
    (c.in-Some.ensures c.args.terms.now c.requires.sealed).0).few

pub returns-in_default-clause-outcome : goal.returns-in_default-clause-outcome
returns-in_default-clause-outcome g c =
    none_of c.args.schema.now c.args.terms.now c.args.graph.now.triples (g.V.View.known c.args.view.now) c.args.lean c.args.pair.node (shape_at c.args.schema.now c.args.pair.shape) c.of.result
    (c.in_default.ensures c.args.terms.now c.requires.sealed) (c.of.ensures ∙ c.new.ensures.items)

pub returns-in_default-clause-placed : goal.returns-in_default-clause-placed
returns-in_default-clause-placed g c =
    placed_can c.args.schema.now c.args.terms.now c.args.graph.now.triples (g.V.View.known c.args.view.now) c.args.lean c.args.pair.node (shape_at c.args.schema.now c.args.pair.shape)
    (Never c.of.result) (returns-in_default-clause-outcome g c)

pub returns-clause-outcome : goal.returns-clause-outcome
returns-clause-outcome g c =
    IfOk-weaker c.outcome.result
    (IsFound (MayHold c.args.schema.now c.args.terms.now (g.V.View.known c.args.view.now) c.args.lean) (MayFail c.args.schema.now c.args.terms.now (g.V.View.known c.args.view.now) c.args.lean) c.in-Some.shape.now c.args.pair.node c.in_ok-triples.triples)
    (IsOutcome c.args.schema.now c.args.terms.now c.args.graph.now.triples (g.V.View.known c.args.view.now) c.args.lean c.args.pair)
    (λ r found. matched_of c.args.schema.now c.args.terms.now c.args.graph.now.triples (g.V.View.known c.args.view.now) c.args.lean c.args.pair.node (shape_at c.args.schema.now c.args.pair.shape) c.in-Some.shape.now c.in_ok-triples.triples
    (c.in-Some.ensures c.args.terms.now c.requires.sealed).0
    (c.in-Some.ensures c.args.terms.now c.requires.sealed).1
    (c.in_ok-triples.ensures c.args.terms.now c.requires.sealed) r found)
    c.outcome.ensures.found

pub returns-clause-placed : goal.returns-clause-placed
returns-clause-placed g c =
    placed_if_ok c.args.schema.now c.args.terms.now c.args.graph.now.triples (g.V.View.known c.args.view.now) c.args.lean c.args.pair.node (shape_at c.args.schema.now c.args.pair.shape) c.outcome.result
    (returns-clause-outcome g c)

pub returns-clause-most : goal.returns-clause-most
returns-clause-most g c =
    ticks_most c.args.schema.now c.args.terms.now c.args.graph.now.triples (g.V.View.known c.args.view.now) c.args.lean c.args.pair c.in-Some.shape.now c.in_ok-triples.triples
    (c.in-Some.ensures c.args.terms.now c.requires.sealed).0
    (c.in_ok-triples.ensures c.args.terms.now c.requires.sealed) c.args.steps.now c.outcome.new.steps c.outcome.ensures.most
