use Rattle.std.proofs.Common.{◌≤◌, ◌+◌, drop, subst, sym}
use Rattle.bag_match.specs.Counts.{AreLeft}
use Rattle.proof_checker.proofs.Layered.{last_shaped, later_from, later_rising, layer_settled, layer_shaped, next_layer, rest_decides}
use Rattle.proof_checker.proofs.states.Listing.all_settled.Goals as goal

pub layer_len-size-requires-in-loop-done-clause-rising : goal.layer_len-size-requires-in-loop-done-clause-rising
layer_len-size-requires-in-loop-done-clause-rising g c =
    later_rising (g.J.Judge.hold c.args.self.now.judge.now)
    (g.J.Judge.fail c.args.self.now.judge.now) c.args.self.now.shape.now c.args.self.now.node c.args.self.now.triples.now c.args.self.now.states.now c.loop-done.done c.loop-done.rest.now c.loop-done.invariant.before c.loop-done.size c.loop-done.invariant.front c.split_at.result.1.now c.split_at.ensures.back

pub layer_len-size-requires-in-loop-done-clause-from : goal.layer_len-size-requires-in-loop-done-clause-from
layer_len-size-requires-in-loop-done-clause-from g c =
    later_from (g.J.Judge.hold c.args.self.now.judge.now)
    (g.J.Judge.fail c.args.self.now.judge.now) c.args.self.now.shape.now c.args.self.now.node c.args.self.now.triples.now c.args.self.now.states.now c.loop-done.done c.loop-done.rest.now c.loop-done.invariant.before c.loop-done.size c.loop-done.invariant.front c.split_at.result.1.now c.split_at.ensures.back

pub is_layer_settled-requires-clause-layer : goal.is_layer_settled-requires-clause-layer
is_layer_settled-requires-clause-layer g c =
    layer_shaped (g.J.Judge.hold c.args.self.now.judge.now)
    (g.J.Judge.fail c.args.self.now.judge.now) c.args.self.now.shape.now c.args.self.now.node c.args.self.now.triples.now c.args.self.now.states.now c.loop-done.done c.loop-done.rest.now c.loop-done.invariant.before c.requires.shaped c.split_at.result.0.now c.loop-done.size c.split_at.ensures.front c.loop-done.invariant.front.layer

pub is_layer_settled-requires-clause-next : goal.is_layer_settled-requires-clause-next
is_layer_settled-requires-clause-next g c =
    next_layer (g.J.Judge.hold c.args.self.now.judge.now)
    (g.J.Judge.fail c.args.self.now.judge.now) c.args.self.now.shape.now c.args.self.now.node c.args.self.now.triples.now c.args.self.now.states.now c.loop-done.done c.loop-done.rest.now c.loop-done.invariant.before c.loop-done.size c.loop-done.invariant.front c.split_at.result.1.now c.layer_len-size-in-loop-done.result c.as_slice-in-loop-done-2.result.now c.split_at.ensures.back
    (record { within = c.layer_len-size-in-loop-done.ensures.within; layer = c.layer_len-size-in-loop-done.ensures.layer; later = c.layer_len-size-in-loop-done.ensures.later })
    (subst (AreLeft c.args.self.now.shape.now.occs c.args.self.now.node (drop (c.loop-done.done + 1) c.args.self.now.triples.now)) (sym c.as_slice-in-loop-done-2.ensures.value) c.in_ok-behind.ensures)

pub loop-done-preserved : goal.loop-done-preserved
loop-done-preserved g c = record {
  left = c.in_ok-behind.ensures;
  before = layer_settled (g.J.Judge.hold c.args.self.now.judge.now)
      (g.J.Judge.fail c.args.self.now.judge.now) c.args.self.now.shape.now c.args.self.now.node c.args.self.now.triples.now c.args.self.now.states.now c.loop-done.done c.loop-done.rest.now c.loop-done.invariant.before c.split_at.result.0.now c.split_at.result.1.now c.loop-done.size c.in_ok-is_layer_settled.field-0 c.split_at.ensures.front c.split_at.ensures.back
      c.loop-done.invariant.front c.in_ok-is_layer_settled.ensures c.if-not-branch.false;
  front = record { within = c.layer_len-size-in-loop-done.ensures.within; layer = c.layer_len-size-in-loop-done.ensures.layer; later = c.layer_len-size-in-loop-done.ensures.later };
}

pub are_dead-requires-clause-last : goal.are_dead-requires-clause-last
are_dead-requires-clause-last g c =
    last_shaped (g.J.Judge.hold c.args.self.now.judge.now)
    (g.J.Judge.fail c.args.self.now.judge.now) c.args.self.now.shape.now c.args.self.now.node c.args.self.now.triples.now c.args.self.now.states.now c.loop-done.done c.loop-done.rest.now (subst (λ m. m ≤ c.loop-done.done) c.len-done-end.ensures c.loop-done-test.false) c.loop-done.invariant.before c.requires.shaped

pub returns : goal.returns
returns g c =
    rest_decides (g.J.Judge.hold c.args.self.now.judge.now)
    (g.J.Judge.fail c.args.self.now.judge.now) c.args.self.now.shape.now c.args.self.now.node c.args.self.now.triples.now c.args.self.now.states.now c.loop-done.done c.loop-done.rest.now c.are_dead.result c.loop-done.invariant.before
    (record { settled = c.are_dead.ensures.settled; unsettled = c.are_dead.ensures.unsettled })
