use Rattle.std.proofs.Common.{◌≡◌, ◌++◌, ◌∷◌, [], false, rules}
use Rattle.xs_pattern.specs.Lexing.{is_end, read_items}
use Rattle.xs_pattern.proofs.Loops.{item_less, items_begin, items_on}
use Rattle.xs_pattern.proofs.class.items.Goals as goal

pub loop-rest-init : goal.loop-rest-init
loop-rest-init c =
    let made : c.push.new.self.items ≡ c.in-Some.first ∷ [] = search rules in
    items_begin c.args.text.now c.in-Some.behind.now c.in-Some.first c.push.new.self.items made c.in-Some.ensures

pub loop-rest-smaller : goal.loop-rest-smaller
loop-rest-smaller c = item_less c.in-Some-item.item c.loop-rest.rest.now c.in-Some-item.behind.now c.in-Some-item.ensures

pub loop-rest-preserved : goal.loop-rest-preserved
loop-rest-preserved c =
    let made : c.push-in-loop-rest.new.self.items ≡ c.loop-rest.items.items ++ c.in-Some-item.item ∷ [] = search rules in
    let goes : is_end c.loop-rest.rest.now ≡ false = search rules in
    items_on c.loop-rest.items.items c.push-in-loop-rest.new.self.items c.in-Some-item.item c.loop-rest.rest.now c.in-Some-item.behind.now (read_items c.args.text.now) made c.loop-rest.invariant goes c.in-Some-item.ensures
