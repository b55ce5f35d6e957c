use Rattle.std.proofs.Common.{◌≡◌, ◌⊎◌, [], Some}
use Rattle.serde_json.specs.View.{view}
use Rattle.json_paths.specs.Paths.{value_at}
use Rattle.key_paths.specs.Causes.{EndsAtCause}
use Rattle.key_paths.proofs.finding.steps_to_cause.Given as goal

abbrev pub invariant-loop-depth : goal.invariant-loop-depth
invariant-loop-depth l = (value_at l.path.items (view l.document) ≡ Some (view l.here)) × ((l.path.items ≡ []) ⊎ EndsAtCause l.error (view l.document) l.path.items)
