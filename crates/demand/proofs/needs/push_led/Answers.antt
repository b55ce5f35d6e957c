use Rattle.std.proofs.Common.{◌≡◌, ◌∙◌, ◌++◌, [], ap, sym, append-nil}
use Rattle.lists.proofs.Members.{no_items}
use Rattle.demand.proofs.Needing.{none_led}
use Rattle.demand.proofs.needs.push_led.Goals as goal

pub returns-then-is_empty : goal.returns-then-is_empty
returns-then-is_empty c = λ terms sealed.
    let none : c.args.link.now.shapes ≡ [] = no_items _ _ c.as_slice.ensures c.if-is_empty.ensures in
    sym (ap (λ xs. c.args.found.now.items ++ xs) (none_led terms c.args.graph.now.triples c.args.node c.args.link.now none) ∙ append-nil c.args.found.now.items)
