use Rattle.std.proofs.Common.{arith, inl, length, refl, sym, subst, true≢false}
use Rattle.schema_tree.specs.States.{IsDead}
use Rattle.lists.proofs.Members.{item_there}
use Rattle.proof_checker.proofs.Stating.{all_are, layer_small, layer_state, one_is_not, one_more_settled, settled_last, sums_fit}
use Rattle.proof_checker.proofs.states.Listing.are_dead.Goals as goal

pub is_dead-requires-clause-small : goal.is_dead-requires-clause-small
is_dead-requires-clause-small g c =
    sums_fit c.args.self.now.shape.now.occs c.args.self.now.node c.args.self.now.triples.now (length c.args.self.now.triples.now) c.as_slice.result.now c.args.left.now c.requires.left c.requires.listed.few
    (λ i. let lt = layer_small c.args.self.now.shape.now c.args.self.now.triples.now (length c.args.self.now.triples.now) c.state-item.result c.as_slice.result.now c.as_slice.ensures (c.requires.last c.state-item.result (item_there c.args.states.now c.loop-state.state-index c.state-item.result c.loop-state-test.true c.state-item.is)) c.requires.listed.few i in omega (arith, lt))

pub returns-then-not-is_dead : goal.returns-then-not-is_dead
returns-then-not-is_dead g c =
    one_is_not (g.J.Judge.hold c.args.self.now.judge.now)
    (g.J.Judge.fail c.args.self.now.judge.now) c.args.self.now.shape.now c.args.self.now.node c.args.self.now.triples.now c.args.self.now.states.now c.args.states.now c.loop-state.state-index c.state-item.result c.loop-state-test.true c.state-item.is
    (λ settled. true≢false (sym ((c.if-not-is_dead.ensures c.args.self.now.node c.args.self.now.triples.now (length c.args.self.now.triples.now) c.requires.left).1
    (subst (λ z. IsDead c.args.self.now.shape.now c.args.self.now.node c.args.self.now.triples.now z) (sym (layer_state c.args.self.now.shape.now c.args.self.now.triples.now (length c.args.self.now.triples.now) c.state-item.result c.as_slice.result.now c.as_slice.ensures (c.requires.last c.state-item.result (item_there c.args.states.now c.loop-state.state-index c.state-item.result c.loop-state-test.true c.state-item.is))))
    (settled_last (g.J.Judge.hold c.args.self.now.judge.now) (g.J.Judge.fail c.args.self.now.judge.now) c.args.self.now.shape.now c.args.self.now.node c.args.self.now.triples.now c.args.self.now.states.now c.state-item.result (c.requires.last c.state-item.result (item_there c.args.states.now c.loop-state.state-index c.state-item.result c.loop-state-test.true c.state-item.is)).0 settled)))))

pub loop-state-preserved : goal.loop-state-preserved
loop-state-preserved g c =
    one_more_settled (g.J.Judge.hold c.args.self.now.judge.now)
    (g.J.Judge.fail c.args.self.now.judge.now) c.args.self.now.shape.now c.args.self.now.node c.args.self.now.triples.now c.args.self.now.states.now c.args.states.now c.loop-state.state-index c.state-item.result c.loop-state-test.true c.state-item.is c.loop-state.invariant
    (inl (subst (λ z. IsDead c.args.self.now.shape.now c.args.self.now.node c.args.self.now.triples.now z) (layer_state c.args.self.now.shape.now c.args.self.now.triples.now (length c.args.self.now.triples.now) c.state-item.result c.as_slice.result.now c.as_slice.ensures (c.requires.last c.state-item.result (item_there c.args.states.now c.loop-state.state-index c.state-item.result c.loop-state-test.true c.state-item.is)))
    ((c.if-not-is_dead.ensures c.args.self.now.node c.args.self.now.triples.now (length c.args.self.now.triples.now) c.requires.left).0 refl)))

pub returns : goal.returns
returns g c = all_are (g.J.Judge.hold c.args.self.now.judge.now)
    (g.J.Judge.fail c.args.self.now.judge.now) c.args.self.now.shape.now c.args.self.now.node c.args.self.now.triples.now c.args.self.now.states.now c.args.states.now c.loop-state.state-index c.loop-state-test.false c.loop-state.invariant
