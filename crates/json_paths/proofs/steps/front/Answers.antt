use Rattle.std.proofs.Common.{map, ap, ◌∙◌}
use Rattle.serde_json.specs.View.{items_of, view}
use Rattle.json_paths.proofs.Copies.{front_of}
use Rattle.json_paths.proofs.steps.front.Goals as goal

pub returns-clause-list : goal.returns-clause-list
returns-clause-list c = c.in_ok-copies.ensures ∙ ap (map view) c.first_items.ensures

pub returns-clause-front : goal.returns-clause-front
returns-clause-front c = ap items_of (c.in_ok-copies.ensures ∙ ap (map view) c.first_items.ensures) ∙ front_of c.args.count c.args.items.now
