use Rattle.std.proofs.Common.{◌≡◌, ◌<◌, List, ℕ, arith, get_or, length, replicate, rules, vec_len}
use Rattle.std.proofs.lemmas.List.{get_or_default}
use Rattle.std.proofs.lemmas.List.Elements.{Contains-get_or}
use Rattle.typing_answers.proofs.Placing.{all_written, none_written, one_more_written}
use Rattle.typing_answers.proofs.nodes.places_by_number.Goals as goal

pub loop-place-init : goal.loop-place-init
loop-place-init c =
    let blank : ◌≡◌ {A = List ℕ} c.in_ok-places.places.items (replicate (length c.args.terms.now) 0) = search rules in
    none_written (length c.args.terms.now) c.args.nodes.now c.in_ok-places.places.items blank

pub loop-place-preserved : goal.loop-place-preserved
loop-place-preserved c =
    let nodes = c.args.nodes.now in
    let i = c.loop-place.place in
    let here = c.loop-place-test.true in
    one_more_written (length c.args.terms.now) nodes i c.loop-place.places.items _ here
    (c.requires.of_table _ (Contains-get_or nodes i _ here)) (λ d. get_or_default nodes i _ d here) c.loop-place.invariant

pub returns : goal.returns
returns c =
    all_written (length c.args.terms.now) c.args.nodes.now c.loop-place.place c.loop-place.places.items
    c.loop-place-test.false c.requires.of_table c.loop-place.invariant

pub index_mut-requires : goal.index_mut-requires
index_mut-requires c =
    let nodes = c.args.nodes.now in
    let below : (get_or nodes c.loop-place.place (record { 0 = 0 })).0 < length c.args.terms.now =
    c.requires.of_table _ (Contains-get_or nodes c.loop-place.place _ c.loop-place-test.true) in
    let size : vec_len c.loop-place.places ≡ length c.loop-place.places.items = search rules in
    omega (arith, below, size, c.loop-place.invariant.size)
