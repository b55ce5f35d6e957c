use Rattle.std.proofs.Common.{◌++◌, ◌≤◌, ℕ, ap, arith, length}
use Rattle.std.proofs.lemmas.List.{length-replicate}
use Rattle.bag_match.proofs.Filled.{inward, left_of, sums_small}
use Rattle.bag_match.proofs.dying.is_dead_by_arcs.Goals as goal

pub is_dead-requires-clause-beside : goal.is_dead-requires-clause-beside
is_dead-requires-clause-beside c =
    let room : length c.as_slice-occs.result.now ≤ length c.fill_left.new.left =
    (let a = c.fill_left.ensures.len in let b = ap length c.as_mut_slice.ensures.value in let e = length-replicate {A = ℕ} 256 0 in let d = ap length c.as_slice-occs.ensures in omega (arith, a, b, e, d, c.requires.few)) in
    (left_of c.args.shape.now.occs c.as_slice-occs.result.now c.args.node (c.args.outs.now ++ inward c.args.ins.now) c.fill_left.new.left c.as_slice.result.now c.front.result.now c.as_slice-occs.ensures c.as_slice.ensures c.front.ensures room c.fill_left.ensures.left).0

pub is_dead-requires-clause-small : goal.is_dead-requires-clause-small
is_dead-requires-clause-small c = λ i.
    let room : length c.as_slice-occs.result.now ≤ length c.fill_left.new.left =
    (let a = c.fill_left.ensures.len in let b = ap length c.as_mut_slice.ensures.value in let e = length-replicate {A = ℕ} 256 0 in let d = ap length c.as_slice-occs.ensures in omega (arith, a, b, e, d, c.requires.few)) in
    let most = sums_small c.args.shape.now.occs c.args.node c.args.outs.now c.args.ins.now c.args.counts.now c.front.result.now
    (left_of c.args.shape.now.occs c.as_slice-occs.result.now c.args.node (c.args.outs.now ++ inward c.args.ins.now) c.fill_left.new.left c.as_slice.result.now c.front.result.now c.as_slice-occs.ensures c.as_slice.ensures c.front.ensures room c.fill_left.ensures.left) i in
    let small = c.requires.small i in
    omega (arith, most, small, c.requires.few_triples)

pub returns : goal.returns
returns c =
    let room : length c.as_slice-occs.result.now ≤ length c.fill_left.new.left =
    (let a = c.fill_left.ensures.len in let b = ap length c.as_mut_slice.ensures.value in let e = length-replicate {A = ℕ} 256 0 in let d = ap length c.as_slice-occs.ensures in omega (arith, a, b, e, d, c.requires.few)) in
    c.is_dead.ensures c.args.node (c.args.outs.now ++ inward c.args.ins.now) 0
    (left_of c.args.shape.now.occs c.as_slice-occs.result.now c.args.node (c.args.outs.now ++ inward c.args.ins.now) c.fill_left.new.left c.as_slice.result.now c.front.result.now c.as_slice-occs.ensures c.as_slice.ensures c.front.ensures room c.fill_left.ensures.left)
