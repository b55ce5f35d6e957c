use Rattle.std.proofs.Common.{◌∙◌, ap}
use Rattle.std.proofs.lemmas.Result.{IfOk-weaker}
use Rattle.std.specs.List.{flat_map}
use Rattle.shard_checks.specs.Reached.{node_line}
use Rattle.shard_checks.proofs.reached.lines_of_pairs.Goals as goal

pub returns : goal.returns
returns c =
    IfOk-weaker c.lines_of_nodes.result _ _
    (λ v made s g roots asked. (c.in_ok-nodes.nodes.items, c.in_ok-nodes.ensures s g roots asked, made ∙ ap (flat_map (node_line c.args.terms.now)) c.as_slice.ensures.value))
    c.lines_of_nodes.ensures
