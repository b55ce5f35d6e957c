use Rattle.std.proofs.Common.{refl, subst, sym}
use Rattle.std.specs.Prelude.{IsNone}
use Rattle.schema_tree.specs.Entries.{shape_at}
use Rattle.schema_tree.specs.Places.{MayFail, MayHold}
use Rattle.bag_match.specs.Least.{AreLeast}
use Rattle.bag_match.specs.declared.outcome.Outcome.TheVariants.{Placed}
use Rattle.bag_match.proofs.Matched.{cannot_none, cannot_of, few_relevant, matched_of, said_of, ticks_most}
use Rattle.bag_match.proofs.matching.find_match.Goals as goal

pub places-requires-clause-few : goal.places-requires-clause-few
places-requires-clause-few g c =
    few_relevant c.args.terms.now c.args.graph.now.triples c.in-Some.shape.now c.args.pair.node c.in_ok-triples.triples c.len-held.result
    (c.in_ok-triples.ensures c.args.terms.now c.requires.sealed) c.len-held.ensures.count c.len-held.ensures.few

pub places-requires-clause-few_occurrences : goal.places-requires-clause-few_occurrences
places-requires-clause-few_occurrences g c =
    (c.requires.loaded.shapes c.args.pair.shape c.in-Some.shape.now
    (c.in-Some.ensures c.args.terms.now c.requires.sealed).0).few

pub returns-in_default-clause-found : goal.returns-in_default-clause-found
returns-in_default-clause-found g c =
    cannot_none c.args.schema.now c.args.terms.now c.args.graph.now.triples (g.V.View.known c.args.view.now) c.args.lean c.args.pair.node (shape_at c.args.schema.now c.args.pair.shape)
    (c.in_default.ensures c.args.terms.now c.requires.sealed)

pub returns-in-Some-2-clause-found : goal.returns-in-Some-2-clause-found
returns-in-Some-2-clause-found g c =
    matched_of c.args.schema.now c.args.terms.now c.args.graph.now.triples (g.V.View.known c.args.view.now) c.args.lean c.args.pair.node (shape_at c.args.schema.now c.args.pair.shape) c.in-Some.shape.now c.in_ok-triples.triples
    (c.in-Some.ensures c.args.terms.now c.requires.sealed).0
    (c.in-Some.ensures c.args.terms.now c.requires.sealed).1
    (c.in_ok-triples.ensures c.args.terms.now c.requires.sealed) (Placed c.of.result)
    (said_of (AreLeast (MayHold c.args.schema.now c.args.terms.now (g.V.View.known c.args.view.now) c.args.lean) (MayFail c.args.schema.now c.args.terms.now (g.V.View.known c.args.view.now) c.args.lean) c.in-Some.shape.now c.args.pair.node c.in_ok-triples.triples)
    c.in_ok-places.field-0 c.in-Some-2.places c.of.result c.in-Some-2.is c.of.ensures c.in_ok-places.ensures.places)

pub returns-clause-found : goal.returns-clause-found
returns-clause-found g c =
    cannot_of c.args.schema.now c.args.terms.now c.args.graph.now.triples (g.V.View.known c.args.view.now) c.args.lean c.args.pair.node (shape_at c.args.schema.now c.args.pair.shape) c.in-Some.shape.now c.in_ok-triples.triples
    (c.in-Some.ensures c.args.terms.now c.requires.sealed).0
    (c.in_ok-triples.ensures c.args.terms.now c.requires.sealed)
    (c.in_ok-places.ensures.none (subst (λ o. IsNone o) (sym c.in-None.is) refl))

pub returns-in_err-places-clause-most : goal.returns-in_err-places-clause-most
returns-in_err-places-clause-most g c =
    ticks_most c.args.schema.now c.args.terms.now c.args.graph.now.triples (g.V.View.known c.args.view.now) c.args.lean c.args.pair c.in-Some.shape.now c.in_ok-triples.triples
    (c.in-Some.ensures c.args.terms.now c.requires.sealed).0
    (c.in_ok-triples.ensures c.args.terms.now c.requires.sealed) c.args.steps.now c.places.new.steps c.places.ensures.most

pub returns-in-Some-2-clause-most : goal.returns-in-Some-2-clause-most
returns-in-Some-2-clause-most g c =
    ticks_most c.args.schema.now c.args.terms.now c.args.graph.now.triples (g.V.View.known c.args.view.now) c.args.lean c.args.pair c.in-Some.shape.now c.in_ok-triples.triples
    (c.in-Some.ensures c.args.terms.now c.requires.sealed).0
    (c.in_ok-triples.ensures c.args.terms.now c.requires.sealed) c.args.steps.now c.places.new.steps c.places.ensures.most

pub returns-clause-most : goal.returns-clause-most
returns-clause-most g c =
    ticks_most c.args.schema.now c.args.terms.now c.args.graph.now.triples (g.V.View.known c.args.view.now) c.args.lean c.args.pair c.in-Some.shape.now c.in_ok-triples.triples
    (c.in-Some.ensures c.args.terms.now c.requires.sealed).0
    (c.in_ok-triples.ensures c.args.terms.now c.requires.sealed) c.args.steps.now c.places.new.steps c.places.ensures.most
