use Rattle.std.proofs.lemmas.List.Elements.{Contains-get_or}
use Rattle.typing_answers.proofs.nodes.places_of.Goals as goal

pub place_of-requires : goal.place_of-requires
place_of-requires c = c.requires _ (Contains-get_or c.args.recorded.now c.loop-node.node-index (record { 0 = 0 }) c.loop-node-test.true)
