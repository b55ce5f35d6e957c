use Rattle.std.proofs.Common.{refl, rules}
use Rattle.shex_inputs.specs.Held.{held_by}
use Rattle.tool_words.specs.Lent.{reaching_of}
use Rattle.shard_answers.proofs.Asking.{are_nodes}
use Rattle.shard_answers.proofs.reached.nodes_over.Goals as goal

pub returns-clause-nodes : goal.returns-clause-nodes
returns-clause-nodes g c =
    let (digests, taken) = c.requires.taken in
    let told = g.F.Files.told c.args.files.now in
    are_nodes told told (reaching_of c.args.reaching.now) refl
    (record { held = held_by c.args.holding.now digests; terms = c.ask.new.holding.terms; associations = c.in_ok-asked.asked.associations.items; pairs = c.in_ok-asked.asked.pairs }) c.in_ok-text.text.items c.list.result.now
    (c.in_ok-asked.ensures.asked digests taken) c.list.ensures.list (search rules)
