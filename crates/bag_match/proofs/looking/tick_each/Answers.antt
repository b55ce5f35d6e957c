use Rattle.std.proofs.Common.{rules, length}
use Rattle.std.specs.List.Sorted.{IsStrictlySortedBy}
use Rattle.bag_match.proofs.Came.{keys_apart}
use Rattle.bag_match.proofs.Putting.{compare_items}
use Rattle.bag_match.proofs.Ticked.{each_end, each_next}
use Rattle.bag_match.proofs.looking.tick_each.Goals as goal

pub loop-counts-preserved : goal.loop-counts-preserved
loop-counts-preserved g c =
    each_next c.loop-counts._counts-iterator c.next.new.self _ c.loop-counts.steps c.tick.new.self c.args.steps.now (length c.args.found.now.keys) c.in-Some.ensures.steps c.loop-counts.invariant c.tick.ensures

pub returns-clause-ticked : goal.returns-clause-ticked
returns-clause-ticked g c = each_end c.args.found.now.keys c.loop-counts._counts-iterator c.loop-counts.steps c.args.steps.now c.in-None.ensures.steps.0 c.loop-counts.invariant

pub returns-clause-apart : goal.returns-clause-apart
returns-clause-apart g c =
    let sorted : IsStrictlySortedBy compare_items c.args.found.now.keys = search rules in
    keys_apart c.args.found.now.keys sorted
