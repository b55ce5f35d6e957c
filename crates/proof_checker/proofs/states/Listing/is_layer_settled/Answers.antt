use Rattle.std.proofs.Common.{rules, sym, subst, true≢false, ◌∙◌}
use Rattle.proof_checker.specs.Stated.{IsSettled}
use Rattle.lists.proofs.Members.{item_there}
use Rattle.proof_checker.proofs.Stating.{all_are, layer_long, layer_small, layer_state, none_are, one_is_not, one_more_settled}
use Rattle.proof_checker.proofs.states.Listing.is_layer_settled.Goals as goal

pub is_settled-requires-clause-one_each : goal.is_settled-requires-clause-one_each
is_settled-requires-clause-one_each g c =
    layer_long c.args.self.now.shape.now c.args.self.now.triples.now c.args.done c.state-item.result c.as_slice-counts.result.now c.as_slice-counts.ensures
    (c.requires.layer c.state-item.result (item_there c.args.layer.now.states.now c.loop-state.state-index c.state-item.result c.loop-state-test.true c.state-item.is))

pub is_settled-requires-clause-small : goal.is_settled-requires-clause-small
is_settled-requires-clause-small g c =
    layer_small c.args.self.now.shape.now c.args.self.now.triples.now c.args.done c.state-item.result c.as_slice-counts.result.now c.as_slice-counts.ensures
    (c.requires.layer c.state-item.result (item_there c.args.layer.now.states.now c.loop-state.state-index c.state-item.result c.loop-state-test.true c.state-item.is)) c.requires.listed.few

pub returns-then-is_empty : goal.returns-then-is_empty
returns-then-is_empty g c = none_are (g.J.Judge.hold c.args.self.now.judge.now)
    (g.J.Judge.fail c.args.self.now.judge.now) c.args.self.now.shape.now c.args.self.now.node c.args.self.now.triples.now c.args.self.now.states.now c.args.layer.now.states.now (search rules)

pub returns-then-not-branch : goal.returns-then-not-branch
returns-then-not-branch g c =
    one_is_not (g.J.Judge.hold c.args.self.now.judge.now)
    (g.J.Judge.fail c.args.self.now.judge.now) c.args.self.now.shape.now c.args.self.now.node c.args.self.now.triples.now c.args.self.now.states.now c.args.layer.now.states.now c.loop-state.state-index c.state-item.result c.loop-state-test.true c.state-item.is
    (λ settled. true≢false (sym (c.in_ok-is_settled.ensures.1 (subst (λ z. IsSettled (g.J.Judge.hold c.args.self.now.judge.now) (g.J.Judge.fail c.args.self.now.judge.now) c.args.self.now.shape.now c.args.self.now.node c.args.self.now.triples.now c.args.self.now.states.now z) (sym (layer_state c.args.self.now.shape.now c.args.self.now.triples.now c.args.done c.state-item.result c.as_slice-counts.result.now c.as_slice-counts.ensures
    (c.requires.layer c.state-item.result (item_there c.args.layer.now.states.now c.loop-state.state-index c.state-item.result c.loop-state-test.true c.state-item.is)))) settled))
    ∙ c.if-not-branch.true))

pub loop-state-preserved : goal.loop-state-preserved
loop-state-preserved g c =
    one_more_settled (g.J.Judge.hold c.args.self.now.judge.now)
    (g.J.Judge.fail c.args.self.now.judge.now) c.args.self.now.shape.now c.args.self.now.node c.args.self.now.triples.now c.args.self.now.states.now c.args.layer.now.states.now c.loop-state.state-index c.state-item.result c.loop-state-test.true c.state-item.is c.loop-state.invariant
    (subst (λ z. IsSettled (g.J.Judge.hold c.args.self.now.judge.now) (g.J.Judge.fail c.args.self.now.judge.now) c.args.self.now.shape.now c.args.self.now.node c.args.self.now.triples.now c.args.self.now.states.now z) (layer_state c.args.self.now.shape.now c.args.self.now.triples.now c.args.done c.state-item.result c.as_slice-counts.result.now c.as_slice-counts.ensures
    (c.requires.layer c.state-item.result (item_there c.args.layer.now.states.now c.loop-state.state-index c.state-item.result c.loop-state-test.true c.state-item.is))) (c.in_ok-is_settled.ensures.0 c.if-not-branch.false))

pub returns : goal.returns
returns g c = all_are (g.J.Judge.hold c.args.self.now.judge.now)
    (g.J.Judge.fail c.args.self.now.judge.now) c.args.self.now.shape.now c.args.self.now.node c.args.self.now.triples.now c.args.self.now.states.now c.args.layer.now.states.now c.loop-state.state-index c.loop-state-test.false c.loop-state.invariant
