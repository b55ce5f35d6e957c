use Rattle.std.proofs.Common.{◌∙◌, sym}
use Rattle.lists.proofs.Members.{yields_on, yields_there}
use Rattle.lists.proofs.Quantifiers.{all_at}
use Rattle.nonconformance.specs.Reasons.{IsKnownReason}
use Rattle.explanations.specs.Blocks.{IsToldReason}
use Rattle.explanations.specs.Mentions.{reason_mentions}
use Rattle.explanations.proofs.Told.{tell_none, tell_one, tell_yielded}
use Rattle.explanations.proofs.explaining.Source.told_reasons.Goals as goal

pub loop-reason-init : goal.loop-reason-init
loop-reason-init g c =
    let s = c.args.self.now.schema.now in
    let terms = c.args.self.now.terms.now in
    let view = g.V.View.known c.args.self.now.view.now in
    record {
      all = sym c.into_iter-reason-iterator.ensures.into_iter_gives.0;
      told = tell_none s terms view (λ all. IsToldReason s terms view all c.args.self.now.graph.now.triples c.args.pair) reason_mentions c.args.seen.now c.new-told.result.items c.new-told.ensures.items;
    }

pub told_reason-requires-clause-reason : goal.told_reason-requires-clause-reason
told_reason-requires-clause-reason g c =
    let s = c.args.self.now.schema.now in
    let terms = c.args.self.now.terms.now in
    let view = g.V.View.known c.args.self.now.view.now in
    let there = yields_there c.args.reasons.items c.loop-reason.yielded c.loop-reason.reason-iterator.rest.items c.next.new.self.rest.items c.in-Some.reason
    c.loop-reason.invariant.all c.in-Some.ensures.steps.0 in
    all_at (IsKnownReason s terms c.args.self.now.graph.now.triples view c.args.pair) c.args.reasons.items c.in-Some.reason c.requires.reasons there

pub loop-reason-preserved : goal.loop-reason-preserved
loop-reason-preserved g c =
    let s = c.args.self.now.schema.now in
    let terms = c.args.self.now.terms.now in
    let view = g.V.View.known c.args.self.now.view.now in
    record {
      all = yields_on c.args.reasons.items c.loop-reason.yielded c.loop-reason.reason-iterator.rest.items c.next.new.self.rest.items c.in-Some.reason
          c.loop-reason.invariant.all c.in-Some.ensures.steps.0;
      told = tell_one s terms view (λ all. IsToldReason s terms view all c.args.self.now.graph.now.triples c.args.pair) reason_mentions c.args.seen.now c.loop-reason.seen c.told_reason.new.seen c.loop-reason.yielded
          c.loop-reason.told.items _ c.in-Some.reason c.in_ok-told_reason.field-0 c.loop-reason.invariant.told c.in_ok-told_reason.ensures.numbers
          c.in_ok-told_reason.ensures.is c.in_ok-push.ensures.items;
    }

pub returns-clause-are : goal.returns-clause-are
returns-clause-are g c =
    let s = c.args.self.now.schema.now in
    let terms = c.args.self.now.terms.now in
    let view = g.V.View.known c.args.self.now.view.now in
    (tell_yielded s terms view (λ all. IsToldReason s terms view all c.args.self.now.graph.now.triples c.args.pair) reason_mentions c.args.seen.now c.loop-reason.seen c.args.reasons.items c.loop-reason.yielded
    c.loop-reason.reason-iterator.rest.items c.loop-reason.told.items c.loop-reason.invariant.all
    (sym c.loop-reason.reason-iterator.rest.ok.0 ∙ c.in-None.ensures.steps.0) c.loop-reason.invariant.told).are
