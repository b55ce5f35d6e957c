use Rattle.std.proofs.Common.{◌≤◌, ap, arith, length, refl}
use Rattle.bag_match.proofs.Forward.{outs_long}
use Rattle.bag_match.proofs.Neighbours.{order_few}
use Rattle.bag_match.proofs.Runs.{runs_in, runs_out}
use Rattle.bag_match.proofs.arcs.relevant.Goals as goal

pub looked_at-end-requires-clause-outward : goal.looked_at-end-requires-clause-outward
looked_at-end-requires-clause-outward c =
    let (terms, sealed) = c.requires in
    outs_long terms c.args.graph.now.triples c.args.node c.outs.result.now (c.outs.ensures terms sealed)

pub push_fitting-requires-clause-few : goal.push_fitting-requires-clause-few
push_fitting-requires-clause-few c =
    let (terms, sealed) = c.requires in
    let same = ap (λ z. length z) (c.neigh-neigh.ensures terms sealed) in
    let few = order_few terms c.args.graph.now.triples c.args.node in
    let most : c.len-held.result ≤ 4000000 = c.len-held.ensures.few in
    omega (arith, same, few, most, c.len-held.ensures.count)

pub push_fitting-requires-clause-runs : goal.push_fitting-requires-clause-runs
push_fitting-requires-clause-runs c =
    let (terms, sealed) = c.requires in
    runs_out terms c.args.graph.now.triples c.args.node c.neigh-neigh.result c.outs.result.now _ (c.neigh-neigh.ensures terms sealed) (c.outs.ensures terms sealed) refl

pub push_fitting-requires-2-clause-few : goal.push_fitting-requires-2-clause-few
push_fitting-requires-2-clause-few c =
    let (terms, sealed) = c.requires in
    let same = ap (λ z. length z) (c.neigh-neigh.ensures terms sealed) in
    let few = order_few terms c.args.graph.now.triples c.args.node in
    let most : c.len-held.result ≤ 4000000 = c.len-held.ensures.few in
    omega (arith, same, few, most, c.len-held.ensures.count)

pub push_fitting-requires-2-clause-runs : goal.push_fitting-requires-2-clause-runs
push_fitting-requires-2-clause-runs c =
    let (terms, sealed) = c.requires in
    runs_in terms c.args.graph.now.triples c.args.node c.neigh-neigh.result c.outs.result.now _ (c.neigh-neigh.ensures terms sealed) (c.outs.ensures terms sealed) refl
    c.looked_at-end.result c.looked_at-end.ensures.within
