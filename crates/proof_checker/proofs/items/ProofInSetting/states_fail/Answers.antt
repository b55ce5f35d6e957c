use Rattle.std.proofs.Common.{arith, ap, length}
use Rattle.bag_match.proofs.Neighbours.{relevant_few}
use Rattle.proof_checker.proofs.items.ProofInSetting.states_fail.Goals as goal

pub states_refute-requires-clause-few : goal.states_refute-requires-clause-few
states_refute-requires-clause-few c =
    let h = c.args.self.now in
    let long = ap (λ z. length z) (c.in_ok-triples.ensures h.terms.now c.requires.ready.sealed) in
    let few = relevant_few h.terms.now h.graph.now.triples c.args.shape.now c.args.node in
    omega (arith, long, few, c.requires.ready.few)
