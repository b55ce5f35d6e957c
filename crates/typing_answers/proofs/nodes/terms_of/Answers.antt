use Rattle.std.proofs.Common.{◌∙◌, ◌∷◌, [], ◌++◌, ap}
use Rattle.std.proofs.lemmas.List.Elements.{Contains-get_or}
use Rattle.typing_answers.proofs.Lines.{numbers_more, values_more}
use Rattle.typing_answers.proofs.nodes.terms_of.Goals as goal

pub get-requires : goal.get-requires
get-requires c = c.requires _ (Contains-get_or c.args.nodes.now c.loop-node.node-index (record { 0 = 0 }) c.loop-node-test.true)

pub loop-node-preserved : goal.loop-node-preserved
loop-node-preserved c =
    let pushed = c.in_ok-push.ensures.items ∙ ap (λ t. c.loop-node.copies.items ++ t ∷ []) c.in_ok-copied_term.ensures.copy in
    record {
      numbers = numbers_more c.args.terms.now c.loop-node.copies.items c.push.new.self.items c.args.nodes.now c.loop-node.node-index (record { 0 = 0 }) c.get.result.now c.loop-node-test.true c.get.ensures pushed c.loop-node.invariant.numbers;
      values = values_more c.loop-node.copies.items c.push.new.self.items c.get.result.now c.loop-node.invariant.values c.copied_term.ensures.value pushed;
    }
