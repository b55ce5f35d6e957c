use Rattle.std.proofs.Common.{◌<◌, ◌↔◌, arith, subst, length, get_or, Contains}
use Rattle.std.proofs.lemmas.Result.{err_from_is_err_and}
use Rattle.schema_tree.specs.declared.schema.Pair.{Pair}
use Rattle.schema_tree.specs.Needs.{Needs, here}
use Rattle.demand.specs.Closing.{Grows, StopsOver}
use Rattle.demand.proofs.Following.{hold_all, hold_more, led_more, led_stops}
use Rattle.demand.proofs.Taken.{held_item}
use Rattle.demand.proofs.reach.see_needs.Goals as goal

pub loop-at-init : goal.loop-at-init
loop-at-init c = record { led = ((λ q d. d), (λ q d. (q, d, here))); held = λ i p q lt at need. absurd (omega arith) }

pub returns-in_err-see_all-clause-stops : goal.returns-in_err-see_all-clause-stops
returns-in_err-see_all-clause-stops c =
    let p = err_from_is_err_and c.from_residual-in_err-see_all.result c.from_residual-in_err-see_all.ensures.1 in
    let inside : c.loop-at.at < length c.loop-at.seen = (let a = c.loop-at-test.true in let b = c.len.ensures.count in omega arith) in
    rw (p.1, p.2) (led_stops c.args.schema.now c.args.graph.now.triples c.args.seen.now c.loop-at.seen c.needs_into.new.found.items (get_or c.loop-at.seen c.loop-at.at (record { node = record { 0 = 0 }; shape = record { 0 = 0 } }))
    c.loop-at.invariant.led (held_item c.loop-at.seen c.loop-at.at _ inside)
    (subst (λ xs. (q : Pair) → Contains c.needs_into.new.found.items q ↔
    Needs c.args.schema.now c.args.graph.now.triples (get_or xs c.loop-at.at (record { node = record { 0 = 0 }; shape = record { 0 = 0 } })) q) c.as_slice.ensures c.in_ok-needs_into.ensures)
    c.in_err-see_all.field-0.0 (subst (λ xs. StopsOver c.loop-at.seen xs c.in_err-see_all.field-0.0) c.as_slice-in-loop-at.ensures.value c.in_err-see_all.ensures.stops))

pub loop-at-preserved : goal.loop-at-preserved
loop-at-preserved c =
    let inside : c.loop-at.at < length c.loop-at.seen = (let a = c.loop-at-test.true in let b = c.len.ensures.count in omega arith) in
    let needs : (q : Pair) → Contains c.needs_into.new.found.items q ↔
    Needs c.args.schema.now c.args.graph.now.triples (get_or c.loop-at.seen c.loop-at.at (record { node = record { 0 = 0 }; shape = record { 0 = 0 } })) q =
    subst (λ xs. (q : Pair) → Contains c.needs_into.new.found.items q ↔
    Needs c.args.schema.now c.args.graph.now.triples (get_or xs c.loop-at.at (record { node = record { 0 = 0 }; shape = record { 0 = 0 } })) q) c.as_slice.ensures c.in_ok-needs_into.ensures in
    let grows : Grows c.loop-at.seen c.needs_into.new.found.items c.see_all.new.seen =
    subst (λ xs. Grows c.loop-at.seen xs c.see_all.new.seen) c.as_slice-in-loop-at.ensures.value c.in_ok-see_all.ensures.grows in
    record {
      led = led_more c.args.schema.now c.args.graph.now.triples c.args.seen.now c.loop-at.seen c.needs_into.new.found.items c.see_all.new.seen _ c.loop-at.invariant.led (held_item c.loop-at.seen c.loop-at.at _ inside) needs grows;
      held = hold_more c.args.schema.now c.args.graph.now.triples c.loop-at.at c.loop-at.seen c.needs_into.new.found.items c.see_all.new.seen _ inside c.loop-at.invariant.held needs grows;
    }

pub returns-clause-whole : goal.returns-clause-whole
returns-clause-whole c =
    hold_all c.args.schema.now c.args.graph.now.triples c.loop-at.at c.loop-at.seen (let a = c.loop-at-test.false in let b = c.len.ensures.count in omega arith) c.loop-at.invariant.held
