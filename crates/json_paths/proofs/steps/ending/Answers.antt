use Rattle.std.proofs.Common.{ap, ◌∙◌}
use Rattle.serde_json.specs.View.{items_view}
use Rattle.json_paths.proofs.Copies.{ending_with}
use Rattle.json_paths.proofs.steps.ending.Goals as goal

pub returns : goal.returns
returns c = ap items_view c.in_ok-push.ensures.items ∙ ending_with c.args.index c.args.items.now c.in_ok-copies.copies.items c.args.last c.in_ok-copies.ensures.list
