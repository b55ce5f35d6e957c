use Rattle.std.proofs.Common.{◌<◌, ◌-◌, ◌+◌, arith, get_or, length, rules, subst}
use Rattle.typing_session.specs.Kept.{pairs_of}
use Rattle.typing_session.specs.Uses.{AreUsers}
use Rattle.typing_session.proofs.Spreading.{met_few, spread_all, spread_more, spread_none}
use Rattle.typing_session.proofs.reaching.spread.Goals as goal

pub loop-at-init : goal.loop-at-init
loop-at-init c = spread_none c.args.schema.now c.args.graph.now.triples (pairs_of c.args.kept.now) c.args.met.now c.requires.within

pub loop-at-smaller : goal.loop-at-smaller
loop-at-smaller c =
    let few = met_few c.args.schema.now c.args.graph.now.triples (pairs_of c.args.kept.now) c.args.met.now c.loop-at.at c.loop-at.met c.len.ensures.distinct c.loop-at.invariant in
    let inside = c.loop-at-test.true in
    let count = c.len.ensures.count in
    let less : length (pairs_of c.args.kept.now) - (c.loop-at.at + 1) < length (pairs_of c.args.kept.now) - c.loop-at.at = omega (arith, few, inside, count) in
    less

pub loop-at-preserved : goal.loop-at-preserved
loop-at-preserved c =
    spread_more c.args.schema.now c.args.graph.now.triples c.args.kept.now c.args.met.now c.loop-at.at c.loop-at.met c.in_ok-found.found.items c.as_slice-in-loop-at-2.result.now c.put_all.new.self (record { node = record { 0 = 0 }; shape = record { 0 = 0 } })
    (let inside = c.loop-at-test.true in let count = c.len.ensures.count in omega (arith, inside, count)) c.loop-at.invariant
    (subst (λ xs. AreUsers c.args.schema.now c.args.graph.now.triples (get_or xs c.loop-at.at (record { node = record { 0 = 0 }; shape = record { 0 = 0 } })) c.in_ok-found.found.items) c.as_slice.ensures c.in_ok-found.ensures)
    (search rules) c.in_ok-put_all.ensures

pub returns-clause-whole : goal.returns-clause-whole
returns-clause-whole c =
    spread_all c.args.schema.now c.args.graph.now.triples (pairs_of c.args.kept.now) c.args.met.now c.loop-at.at c.loop-at.met
    (let t = c.loop-at-test.false in let e = c.len.ensures.count in omega (arith, t, e)) c.loop-at.invariant
