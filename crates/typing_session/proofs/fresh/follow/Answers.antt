use Rattle.std.proofs.Common.{◌∙◌, ◌↔◌, ap, arith, Contains, get_or, subst}
use Rattle.demand.specs.Closing.{Grows}
use Rattle.schema_tree.specs.declared.schema.Pair.{Pair}
use Rattle.schema_tree.specs.Needs.{Needs}
use Rattle.typing_session.specs.Kept.{fresh_of, pairs_of}
use Rattle.typing_session.proofs.Walking.{followed_all, followed_few, followed_many, followed_more, followed_none}
use Rattle.typing_session.proofs.fresh.follow.Goals as goal

pub loop-at-init : goal.loop-at-init
loop-at-init c = followed_none c.args.schema.now c.args.graph.now.triples (pairs_of c.args.kept.now) c.args.met.now c.requires.apart

pub returns-then-len-gt-MAX_PAIRS-clause-many : goal.returns-then-len-gt-MAX_PAIRS-clause-many
returns-then-len-gt-MAX_PAIRS-clause-many c = λ e.
    followed_many c.args.schema.now c.args.graph.now.triples (pairs_of c.args.kept.now) c.args.met.now c.loop-at.at c.loop-at.met c.len-in-loop-at.ensures.distinct
    (let many = c.if-len-gt-MAX_PAIRS.true in let count = c.len-in-loop-at.ensures.count in omega (arith, many, count)) c.loop-at.invariant

pub loop-at-preserved : goal.loop-at-preserved
loop-at-preserved c =
    followed_more c.args.schema.now c.args.graph.now.triples c.args.kept.now c.args.met.now c.loop-at.at c.loop-at.met c.in_ok-found.found.items c.in_ok-missing.missing.items c.put_all.new.self
    (record { node = record { 0 = 0 }; shape = record { 0 = 0 } })
    (let inside = c.loop-at-test.true in let count = c.len.ensures.count in omega (arith, inside, count))
    (let few = c.if-len-gt-MAX_PAIRS.false in let count = c.len-in-loop-at.ensures.count in omega (arith, few, count)) c.loop-at.invariant
    (subst (λ xs. (q : Pair) → Contains c.in_ok-found.found.items q ↔
    Needs c.args.schema.now c.args.graph.now.triples (get_or xs c.loop-at.at (record { node = record { 0 = 0 }; shape = record { 0 = 0 } })) q) c.as_slice.ensures c.in_ok-found.ensures)
    (c.in_ok-missing.ensures ∙ ap (fresh_of c.args.kept.now) c.as_slice-in-loop-at.ensures.value)
    (subst (λ xs. Grows c.loop-at.met xs c.put_all.new.self) c.as_slice-in-loop-at-2.ensures.value c.in_ok-put_all.ensures)

pub returns-clause-whole : goal.returns-clause-whole
returns-clause-whole c =
    followed_all c.args.schema.now c.args.graph.now.triples (pairs_of c.args.kept.now) c.args.met.now c.loop-at.at c.loop-at.met
    (let t = c.loop-at-test.false in let e = c.len.ensures.count in omega (arith, t, e)) c.loop-at.invariant

pub returns-clause-few : goal.returns-clause-few
returns-clause-few c =
    followed_few c.args.schema.now c.args.graph.now.triples (pairs_of c.args.kept.now) c.args.met.now c.loop-at.at c.loop-at.met
    (let t = c.loop-at-test.false in let e = c.len.ensures.count in omega (arith, t, e)) c.loop-at.invariant
