use Rattle.std.proofs.Common.{◌≡◌}
use Rattle.serde_json.specs.Data.{depth}
use Rattle.serde_json.specs.View.{view}
use Rattle.key_paths.proofs.labels.+steps_to.Given as goal

abbrev pub decreases-steps_to : goal.decreases-steps_to
decreases-steps_to l = depth (view l.here.now)

abbrev pub invariant-loop-step : goal.invariant-loop-step
invariant-loop-step l = l.search.label.now ≡ l.fn.search.label.now
