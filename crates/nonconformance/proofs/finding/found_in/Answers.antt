use Rattle.std.proofs.Common.{ap, arith, length}
use Rattle.nonconformance.proofs.Found.{few_offers, found_from}
use Rattle.nonconformance.proofs.finding.found_in.Goals as goal

pub conclude-requires-clause-few : goal.conclude-requires-clause-few
conclude-requires-clause-few g c =
    let (terms, sealed) = c.requires.sealed in
    let few = few_offers (g.J.Judge.hold c.args.judge.now) (g.J.Judge.fail c.args.judge.now) terms c.args.graph.now.triples c.args.shape.now c.args.node
    c.in_ok-triples.triples c.in_ok-offers.offers.items c.len-held.result (c.in_ok-triples.ensures terms sealed) c.in_ok-offers.ensures c.len-held.ensures.count c.len-held.ensures.few in
    let lent = ap (λ z. length z) c.as_slice-3.ensures.value in
    omega (arith, few, lent)

pub returns : goal.returns
returns g c = λ terms sealed.
    found_from (g.J.Judge.hold c.args.judge.now) (g.J.Judge.fail c.args.judge.now) terms c.args.graph.now.triples c.args.shape.now c.args.node
    c.outs.result.now c.in_ok-triples.triples c.in_ok-offers.offers.items c.as_slice.result.now c.as_slice-2.result.now c.as_slice-3.result.now c.len-held.result
    c.new-reasons.result.items c.push_all_forbidden.new.reasons.items c.push_all_unmatched.new.reasons.items c.push_counts.new.reasons.items c.conclude.new.reasons.items
    (c.outs.ensures terms sealed) (c.in_ok-triples.ensures terms sealed) c.in_ok-offers.ensures c.len-held.ensures.count c.len-held.ensures.few
    c.new-reasons.ensures.items c.in_ok-push_all_forbidden.ensures c.as_slice.ensures.value c.in_ok-push_all_unmatched.ensures c.as_slice-2.ensures.value
    c.in_ok-push_counts.ensures c.as_slice-3.ensures.value c.in_ok-conclude.ensures
