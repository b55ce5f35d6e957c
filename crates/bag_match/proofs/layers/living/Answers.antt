use Rattle.std.proofs.Common.{[], length}
use Rattle.lists.proofs.Members.{is_first}
use Rattle.bag_match.proofs.Alive.{dead_on, few_on, few_still, keys_next, living_on, living_whole, small_now, ticks_next}
use Rattle.bag_match.proofs.Came.{keys_apart}
use Rattle.bag_match.proofs.layers.living.Goals as goal

pub is_dead-requires-clause-one_each : goal.is_dead-requires-clause-one_each
is_dead-requires-clause-one_each g c =
    (small_now c.args.found.keys c.loop-counts.yielded c.in-Some.counts c.loop-counts.counts-iterator c.next.new.self c.loop-counts.invariant.split c.in-Some.ensures.steps
    (length c.args.shape.now.occs) c.args.left.now c.as_slice.result.now c.requires.small c.as_slice.ensures.value c.as_slice.result.now (is_first c.as_slice.result.now [])).0

pub is_dead-requires-clause-small : goal.is_dead-requires-clause-small
is_dead-requires-clause-small g c =
    (small_now c.args.found.keys c.loop-counts.yielded c.in-Some.counts c.loop-counts.counts-iterator c.next.new.self c.loop-counts.invariant.split c.in-Some.ensures.steps
    (length c.args.shape.now.occs) c.args.left.now c.as_slice.result.now c.requires.small c.as_slice.ensures.value c.as_slice.result.now (is_first c.as_slice.result.now [])).1

pub loop-counts-preserved-in-Continue-1 : goal.loop-counts-preserved-in-Continue-1
loop-counts-preserved-in-Continue-1 g c = record {
  split = keys_next c.args.found.keys c.loop-counts.yielded c.in-Some.counts c.loop-counts.counts-iterator c.next.new.self c.loop-counts.invariant.split c.in-Some.ensures.steps;
  sorted = c.loop-counts.invariant.sorted;
  ticks = ticks_next c.args.found.keys c.loop-counts.yielded c.in-Some.counts c.loop-counts.counts-iterator c.next.new.self c.loop-counts.invariant.split c.in-Some.ensures.steps
      c.args.steps.now c.loop-counts.steps c.tick.new.self c.loop-counts.invariant.ticks c.tick.ensures;
  few = few_on c.loop-counts.yielded c.in-Some.counts c.loop-counts.states.items c.push.new.self.items _ c.loop-counts.invariant.few c.in_ok-push.ensures.items;
  living = λ n ts held.
      living_on c.args.found.keys c.loop-counts.yielded c.in-Some.counts c.loop-counts.counts-iterator c.next.new.self c.loop-counts.invariant.split c.in-Some.ensures.steps
      c.args.shape.now n ts c.args.done c.loop-counts.states.items c.is_dead.result c.as_slice.result.now c.of.result
      c.loop-counts.invariant.sorted (c.loop-counts.invariant.living n ts held) c.as_slice.ensures.value (c.is_dead.ensures n ts c.args.done held)
      c.push.new.self.items (c.if-not-is_dead.true) c.of.ensures c.in_ok-push.ensures.items;
}

pub loop-counts-preserved : goal.loop-counts-preserved
loop-counts-preserved g c = record {
  split = keys_next c.args.found.keys c.loop-counts.yielded c.in-Some.counts c.loop-counts.counts-iterator c.next.new.self c.loop-counts.invariant.split c.in-Some.ensures.steps;
  sorted = c.loop-counts.invariant.sorted;
  ticks = ticks_next c.args.found.keys c.loop-counts.yielded c.in-Some.counts c.loop-counts.counts-iterator c.next.new.self c.loop-counts.invariant.split c.in-Some.ensures.steps
      c.args.steps.now c.loop-counts.steps c.tick.new.self c.loop-counts.invariant.ticks c.tick.ensures;
  few = few_still c.loop-counts.yielded c.in-Some.counts c.loop-counts.states.items c.loop-counts.invariant.few;
  living = λ n ts held.
      dead_on c.args.found.keys c.loop-counts.yielded c.in-Some.counts c.loop-counts.counts-iterator c.next.new.self c.loop-counts.invariant.split c.in-Some.ensures.steps
      c.args.shape.now n ts c.args.done c.loop-counts.states.items c.is_dead.result c.as_slice.result.now c.as_slice.result.now
      c.loop-counts.invariant.sorted (c.loop-counts.invariant.living n ts held) c.as_slice.ensures.value (c.is_dead.ensures n ts c.args.done held)
      (c.if-not-is_dead.false);
}

pub returns-clause-living : goal.returns-clause-living
returns-clause-living g c =
    λ n ts held. living_whole c.args.shape.now n ts c.args.done c.args.found.keys c.loop-counts.yielded c.loop-counts.counts-iterator c.loop-counts.states.items
    c.loop-counts.invariant.split c.in-None.ensures.steps.0 (c.loop-counts.invariant.living n ts held)

pub returns-in_err-push-clause-apart : goal.returns-in_err-push-clause-apart
returns-in_err-push-clause-apart g c = keys_apart c.args.found.keys c.loop-counts.invariant.sorted

pub returns-clause-apart : goal.returns-clause-apart
returns-clause-apart g c = keys_apart c.args.found.keys c.loop-counts.invariant.sorted
