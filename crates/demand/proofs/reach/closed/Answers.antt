use Rattle.std.proofs.Common.{◌↔◌, subst, Contains}
use Rattle.schema_tree.specs.declared.schema.Pair.{Pair}
use Rattle.demand.proofs.Reached.{closed_in_order, grown_in_order}
use Rattle.demand.proofs.reach.closed.Goals as goal

same : (c : goal.After-drop-all_links-inside-2) → (q : Pair) → Contains c.in_ok-list.list.items q ↔ Contains c.see_needs.new.seen q
same c = subst (λ xs. (q : Pair) → Contains c.in_ok-list.list.items q ↔ Contains xs q) c.as_slice-2.ensures c.in_ok-list.ensures.same

pub returns-clause-whole : goal.returns-clause-whole
returns-clause-whole c = closed_in_order c.args.schema.now c.args.graph.now.triples c.see_needs.new.seen c.in_ok-list.list.items c.in_ok-see_needs.ensures.whole (same c)

pub returns-clause-grown : goal.returns-clause-grown
returns-clause-grown c = grown_in_order c.args.schema.now c.args.graph.now.triples c.args.seen.now c.see_needs.new.seen c.in_ok-list.list.items c.in_ok-see_needs.ensures.grown (same c)
