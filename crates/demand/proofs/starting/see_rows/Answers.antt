use Rattle.std.proofs.Common.{get_or, map, refl, subst}
use Rattle.std.proofs.lemmas.Result.{err_from_is_err_and}
use Rattle.demand.proofs.Roots.{roots_done, start_more, start_stops}
use Rattle.demand.specs.Closing.{Grows, StopsOver}
use Rattle.schema_tree.specs.Entries.{pair_of}
use Rattle.demand.proofs.starting.see_rows.Goals as goal

pub returns-in_err-see_node-clause-stops : goal.returns-in_err-see_node-clause-stops
returns-in_err-see_node-clause-stops c =
    let p = err_from_is_err_and c.from_residual-in_err-see_node.result c.from_residual-in_err-see_node.ensures.1 in
    let r = get_or c.args.roots.now c.loop-root.root-index (record { node = record { 0 = 0 }; expr = record { 0 = 0 } }) in
    rw (p.1, p.2)
    (start_stops c.args.schema.now c.args.roots.now c.loop-root.root-index (record { node = record { 0 = 0 }; expr = record { 0 = 0 } }) r c.loop-root-test.true refl c.turn_to.new.shapes
    c.in_ok-turn_to.ensures.shapes c.args.seen.now c.loop-root.seen c.loop-root.invariant.starts c.in_err-see_node.field-0.0
    (subst (λ xs. StopsOver c.loop-root.seen (map (pair_of r.node) xs) c.in_err-see_node.field-0.0) c.as_slice.ensures c.in_err-see_node.ensures.stops))

pub loop-root-preserved : goal.loop-root-preserved
loop-root-preserved c =
    let r = get_or c.args.roots.now c.loop-root.root-index (record { node = record { 0 = 0 }; expr = record { 0 = 0 } }) in
    record {
      starts = start_more c.args.schema.now c.args.roots.now c.loop-root.root-index (record { node = record { 0 = 0 }; expr = record { 0 = 0 } }) r c.loop-root-test.true refl c.turn_to.new.shapes
          c.in_ok-turn_to.ensures.shapes c.args.seen.now c.loop-root.seen c.loop-root.invariant.starts c.see_node.new.seen
          (subst (λ xs. Grows c.loop-root.seen (map (pair_of r.node) xs) c.see_node.new.seen) c.as_slice.ensures c.in_ok-see_node.ensures.grows);
      shapes = rw c.in_ok-turn_to.ensures.expr c.in_ok-turn_to.ensures.shapes;
    }

pub returns-clause-seen : goal.returns-clause-seen
returns-clause-seen c = roots_done c.args.schema.now c.args.roots.now c.loop-root.root-index c.args.seen.now c.loop-root.seen c.loop-root-test.false c.loop-root.invariant.starts
