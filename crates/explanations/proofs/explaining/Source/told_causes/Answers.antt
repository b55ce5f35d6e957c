use Rattle.std.proofs.Common.{◌∙◌, sym}
use Rattle.lists.proofs.Members.{yields_on, yields_there}
use Rattle.explanations.proofs.Failing.{members_fail}
use Rattle.explanations.specs.Blocks.{IsToldCause}
use Rattle.explanations.specs.Mentions.{cause_mentions}
use Rattle.explanations.proofs.Told.{tell_none, tell_one, tell_yielded}
use Rattle.explanations.proofs.explaining.Source.told_causes.Goals as goal

pub loop-cause-init : goal.loop-cause-init
loop-cause-init g c =
    let s = c.args.self.now.schema.now in
    let terms = c.args.self.now.terms.now in
    let view = g.V.View.known c.args.self.now.view.now in
    record {
      all = sym c.into_iter-cause-iterator.ensures.into_iter_gives.0;
      told = tell_none s terms view (λ all. IsToldCause s terms view all c.args.node) cause_mentions c.args.seen.now c.new-told.result.items c.new-told.ensures.items;
    }

pub told_cause-requires-clause-fail : goal.told_cause-requires-clause-fail
told_cause-requires-clause-fail g c =
    let s = c.args.self.now.schema.now in
    let terms = c.args.self.now.terms.now in
    let view = g.V.View.known c.args.self.now.view.now in
    let there = yields_there c.args.causes.items c.loop-cause.yielded c.loop-cause.cause-iterator.rest.items c.next.new.self.rest.items c.in-Some.cause
    c.loop-cause.invariant.all c.in-Some.ensures.steps.0 in
    members_fail s terms view c.requires.loaded c.args.node c.args.expr c.in-Some.cause c.requires.entry ((c.requires.causes c.in-Some.cause).0 there)

pub loop-cause-preserved : goal.loop-cause-preserved
loop-cause-preserved g c =
    let s = c.args.self.now.schema.now in
    let terms = c.args.self.now.terms.now in
    let view = g.V.View.known c.args.self.now.view.now in
    record {
      all = yields_on c.args.causes.items c.loop-cause.yielded c.loop-cause.cause-iterator.rest.items c.next.new.self.rest.items c.in-Some.cause
          c.loop-cause.invariant.all c.in-Some.ensures.steps.0;
      told = tell_one s terms view (λ all. IsToldCause s terms view all c.args.node) cause_mentions c.args.seen.now c.loop-cause.seen c.told_cause.new.seen c.loop-cause.yielded
          c.loop-cause.told.items _ c.in-Some.cause c.in_ok-told_cause.field-0 c.loop-cause.invariant.told c.in_ok-told_cause.ensures.numbers
          c.in_ok-told_cause.ensures.is c.in_ok-push.ensures.items;
    }

pub returns-clause-are : goal.returns-clause-are
returns-clause-are g c =
    let s = c.args.self.now.schema.now in
    let terms = c.args.self.now.terms.now in
    let view = g.V.View.known c.args.self.now.view.now in
    (tell_yielded s terms view (λ all. IsToldCause s terms view all c.args.node) cause_mentions c.args.seen.now c.loop-cause.seen c.args.causes.items c.loop-cause.yielded
    c.loop-cause.cause-iterator.rest.items c.loop-cause.told.items c.loop-cause.invariant.all
    (sym c.loop-cause.cause-iterator.rest.ok.0 ∙ c.in-None.ensures.steps.0) c.loop-cause.invariant.told).are
