use Rattle.std.proofs.Common.{◌≡◌, ◌≤◌, arith, length, rules, subst, sym}
use Rattle.std.specs.Vec.{vec_len}
use Rattle.bag_match.specs.Hopes.{IsHopeless}
use Rattle.bag_match.specs.Searches.{AreFailed}
use Rattle.bag_match.proofs.Hopeful.{not_hopeless, opening_small}
use Rattle.bag_match.proofs.Searching.{hopeless_none, none_failed, search_ends, search_starts}
use Rattle.bag_match.proofs.layers.Question.search.Goals as goal

pub is_hopeless-requires-clause-small : goal.is_hopeless-requires-clause-small
is_hopeless-requires-clause-small g c =
    opening_small (g.J.Judge.hold c.args.self.now.judge.now)
    (g.J.Judge.fail c.args.self.now.judge.now) c.args.self.now.shape.now c.args.self.now.node c.args.self.now.triples.now c.args.offered.now c.requires.offered
    c.args.way.now.counts.items c.as_slice.result.now c.as_slice-2.result.now c.args.way.now.more.items c.requires.counts c.as_slice.ensures.value c.requires.more c.as_slice-2.ensures.value c.requires.few

pub returns-then-is_hopeless-clause-none : goal.returns-then-is_hopeless-clause-none
returns-then-is_hopeless-clause-none g c so =
    hopeless_none (g.J.Judge.hold c.args.self.now.judge.now)
    (g.J.Judge.fail c.args.self.now.judge.now) c.args.self.now.shape.now c.args.self.now.node c.args.self.now.triples.now c.args.offered.now c.requires.offered c.args.way.now.counts.items c.args.way.now.more.items c.requires.counts c.requires.more
    (subst (λ z. IsHopeless c.args.self.now.shape.now.body c.args.way.now.counts.items z) c.as_slice-2.ensures.value
    (subst (λ z. IsHopeless c.args.self.now.shape.now.body z c.as_slice-2.result.now) c.as_slice.ensures.value (c.is_hopeless.ensures.0 c.if-is_hopeless.true)))

pub loop-alloc-init : goal.loop-alloc-init
loop-alloc-init g c =
    search_starts (g.J.Judge.hold c.args.self.now.judge.now)
    (g.J.Judge.fail c.args.self.now.judge.now) c.args.self.now.shape.now c.args.self.now.node c.args.self.now.triples.now c.args.offered.now c.requires.offered
    c.args.way.now.places.items c.args.way.now.tried.items c.args.way.now.counts.items c.args.way.now.more.items c.args.way.now.failed.items
    c.requires.places c.requires.tried c.requires.counts c.requires.more c.requires.failed
    (not_hopeless c.args.self.now.shape.now.body c.as_slice.result.now c.args.way.now.counts.items c.as_slice-2.result.now c.args.way.now.more.items c.is_hopeless.result
    c.as_slice.ensures.value c.as_slice-2.ensures.value c.is_hopeless.ensures c.if-is_hopeless.false)

pub returns-clause-found : goal.returns-clause-found
returns-clause-found g c so =
    let size : vec_len c.loop-alloc.way.places ≡ length c.loop-alloc.way.places.items = search rules in
    let past : length c.args.self.now.triples.now ≤ length c.loop-alloc.way.places.items =
    (let a = c.loop-alloc-test.false in let b = c.len.ensures in let e = c.len-in-loop-alloc.ensures in omega (arith, a, b, e, size)) in
    search_ends (g.J.Judge.hold c.args.self.now.judge.now)
    (g.J.Judge.fail c.args.self.now.judge.now) c.args.self.now.shape.now c.args.self.now.node c.args.self.now.triples.now c.args.offered.now c.requires.offered
    c.loop-alloc.way.places.items c.loop-alloc.way.tried.items c.loop-alloc.way.counts.items c.loop-alloc.way.more.items c.loop-alloc.way.failed.items c.loop-alloc.from c.loop-alloc.invariant
    c.interval_has_copies.ensures c.requires.body past

pub returns-then-is_hopeless-clause-failed : goal.returns-then-is_hopeless-clause-failed
returns-then-is_hopeless-clause-failed g c =
    subst (λ z. AreFailed (g.J.Judge.hold c.args.self.now.judge.now) (g.J.Judge.fail c.args.self.now.judge.now) c.args.self.now.shape.now c.args.self.now.node c.args.self.now.triples.now z)
    (sym c.requires.failed)
    (none_failed (g.J.Judge.hold c.args.self.now.judge.now) (g.J.Judge.fail c.args.self.now.judge.now) c.args.self.now.shape.now c.args.self.now.node c.args.self.now.triples.now)

pub returns-clause-failed : goal.returns-clause-failed
returns-clause-failed g c = c.loop-alloc.invariant.failed_are
