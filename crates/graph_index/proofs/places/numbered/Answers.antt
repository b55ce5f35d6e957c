use Rattle.std.proofs.Common.{◌≡◌, ◌<◌, List, ℕ, arith, get_or, length, replicate, rules, vec_len}
use Rattle.std.proofs.lemmas.List.{get_or_default}
use Rattle.std.proofs.lemmas.List.Elements.{Contains-get_or}
use Rattle.graph_index.proofs.Numbered.{none_written, writes_more, all_written}
use Rattle.graph_index.proofs.places.numbered.Goals as goal

pub loop-i-init : goal.loop-i-init
loop-i-init c =
    let blank : ◌≡◌ {A = List ℕ} c.in_ok-places.places.items (replicate c.args.len 0) = search rules in
    none_written c.args.len c.args.ids.now c.in_ok-places.places.items blank

pub loop-i-preserved : goal.loop-i-preserved
loop-i-preserved c =
    writes_more c.args.len c.args.ids.now c.loop-i.i c.loop-i.places.items _ c.loop-i-test.true (c.requires _ (Contains-get_or c.args.ids.now c.loop-i.i _ c.loop-i-test.true))
    (λ d. get_or_default c.args.ids.now c.loop-i.i _ d c.loop-i-test.true) c.loop-i.invariant

pub returns-clause-all : goal.returns-clause-all
returns-clause-all c = all_written c.args.len c.args.ids.now c.loop-i.i c.loop-i.places.items c.loop-i-test.false c.loop-i.invariant

pub index_mut-requires : goal.index_mut-requires
index_mut-requires c =
    let below : (get_or c.args.ids.now c.loop-i.i (record { 0 = 0 })).0 < c.args.len = c.requires _ (Contains-get_or c.args.ids.now c.loop-i.i _ c.loop-i-test.true) in
    let size : vec_len c.loop-i.places ≡ length c.loop-i.places.items = search rules in
    omega (arith, below, size, c.loop-i.invariant.size)
