use Rattle.std.proofs.Common.{◌≤◌, ◌-◌}
use Rattle.typing_session.specs.Edits.{AddsNode}
use Rattle.typing_session.proofs.reaching.push_node.Given as goal

abbrev pub invariant-loop-number : goal.invariant-loop-number
invariant-loop-number l = record {
  added : AddsNode l.node l.number l.initial.found.items l.found.items;
  within : l.number ≤ l.count;
}

abbrev pub decreases-loop-number : goal.decreases-loop-number
decreases-loop-number l = l.count - l.number
