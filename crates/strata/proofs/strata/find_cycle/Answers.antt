use Rattle.std.proofs.Common.{length, ◌<◌, arith, sym, subst, get_or}
use Rattle.strata.proofs.Rising.{have_ends, in_range}
use Rattle.strata.proofs.Passing.{no_arc}
use Rattle.strata.proofs.Walks.{no_way}
use Rattle.strata.proofs.strata.find_cycle.Goals as goal

pub reach-requires-clause-there : goal.reach-requires-clause-there
reach-requires-clause-there c = (have_ends c.args.s.now c.requires.loaded c.args.arcs.now c.requires.edges c.loop-arc.arc-index no_arc c.loop-arc-test.true).0

pub index-requires : goal.index-requires
index-requires c =
    let lt = (have_ends c.args.s.now c.requires.loaded c.args.arcs.now c.requires.edges c.loop-arc.arc-index no_arc c.loop-arc-test.true).1 in
    omega (arith, lt, c.in_ok-ranks.ensures.size, c.in_ok-ranks.ranks.ok)

pub walk-requires-clause-has : goal.walk-requires-clause-has
walk-requires-clause-has c =
    let lt = (have_ends c.args.s.now c.requires.loaded c.args.arcs.now c.requires.edges c.loop-arc.arc-index no_arc c.loop-arc-test.true).1 in
    let to = (get_or c.args.arcs.now c.loop-arc.arc-index no_arc).to.0 in
    let inside : to < length c.in_ok-ranks.ranks.items = omega (arith, lt, c.in_ok-ranks.ensures.size) in
    let value = in_range c.in_ok-ranks.ranks.items to c.index.result.now inside in
    subst (λ f. 0 < get_or f to 0) (sym c.deref-then-index-ne0.ensures.value) (omega (arith, value, c.index.ensures, c.if-index-ne0.true))

pub unreachable-requires : goal.unreachable-requires
unreachable-requires c =
    c.requires.some (no_way c.args.s.now c.args.arcs.now c.requires.edges (λ k d lt. c.loop-arc.invariant k d (let h = c.loop-arc-test.false in omega arith)))
