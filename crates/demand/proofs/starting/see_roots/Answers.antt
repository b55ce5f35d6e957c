use Rattle.std.proofs.Common.{sym, subst}
use Rattle.std.proofs.lemmas.Result.{IfErr-weaker, on_ok_weaker}
use Rattle.std.specs.List.Sorted.{IsPermutation}
use Rattle.demand.proofs.Roots.{any_order, any_order_stops}
use Rattle.demand.proofs.starting.see_roots.Goals as goal

pub returns-clause-seen : goal.returns-clause-seen
returns-clause-seen c =
    let same : IsPermutation c.args.roots.now c.as_slice.result.now = subst (IsPermutation c.args.roots.now) (sym c.as_slice.ensures.value) c.in_ok-ordered.ensures in
    on_ok_weaker c.see_rows.result (any_order c.args.schema.now c.args.roots.now c.as_slice.result.now same c.args.seen.now c.see_rows.new.seen) c.see_rows.ensures.seen

pub returns-clause-stops : goal.returns-clause-stops
returns-clause-stops c =
    let same : IsPermutation c.args.roots.now c.as_slice.result.now = subst (IsPermutation c.args.roots.now) (sym c.as_slice.ensures.value) c.in_ok-ordered.ensures in
    IfErr-weaker c.see_rows.result _ _ (any_order_stops c.args.schema.now c.args.roots.now c.as_slice.result.now same c.args.seen.now) c.see_rows.ensures.stops
