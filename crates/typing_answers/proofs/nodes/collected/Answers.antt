use Rattle.std.proofs.Common.{◌∙◌, ◌++◌, ap}
use Rattle.typing_answers.proofs.nodes.collected.Goals as goal

pub returns : goal.returns
returns c = c.in_ok-extend_from_slice.ensures.items ∙ ap (λ v. v ++ c.args.recorded.now) c.in_ok-nodes.ensures
