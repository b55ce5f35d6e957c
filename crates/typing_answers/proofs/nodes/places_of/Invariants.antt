use Rattle.std.proofs.Common.{◌≡◌, map, take}
use Rattle.typing_answers.specs.Numbering.{place_in}
use Rattle.typing_answers.proofs.nodes.places_of.Given as goal

abbrev pub invariant-loop-node : goal.invariant-loop-node
invariant-loop-node l = l.places.items ≡ map (place_in l.by_number) (take l.node-index l.recorded)
