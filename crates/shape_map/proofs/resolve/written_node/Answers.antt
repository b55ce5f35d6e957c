use Rattle.std.proofs.Common.{[], ◌∷◌, ◌++◌, ap, ◌∙◌}
use Rattle.shape_map.proofs.Chosen.{one_found}
use Rattle.shape_map.proofs.resolve.written_node.Goals as goal

pub returns : goal.returns
returns c = λ graph. one_found graph _ c.args.node.now c.in-Some.id _ c.in-Some.ensures.found (c.in_ok-push-in-Some.ensures.items ∙ ap (λ v. v ++ c.in-Some.id ∷ []) c.new-nodes.ensures.items)
