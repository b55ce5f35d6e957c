use Rattle.std.proofs.Common.{ap, ◌∙◌}
use Rattle.serde_json.specs.View.{members_view}
use Rattle.json_paths.specs.Members.{without_member}
use Rattle.json_paths.proofs.Copies.{without_entry}
use Rattle.json_paths.proofs.steps.without_member.Goals as goal

pub returns : goal.returns
returns c = ap members_view c.remove.ensures.entries ∙ (without_entry c.args.name.now c.in_ok-copies.copies.entries ∙ ap (without_member c.args.name.now) c.in_ok-copies.ensures)
