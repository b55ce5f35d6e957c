use Rattle.std.proofs.Common.{◌≡◌, map, take}
use Rattle.xs_pattern.specs.declared.expression.Item.TheVariants as Items
use Rattle.xs_pattern.specs.Regex.{item, one, regex_of}
use Rattle.xs_pattern.proofs.flagged.literal.Given as goal

abbrev pub invariant-loop-c : goal.invariant-loop-c
invariant-loop-c l = map regex_of l.pieces.items ≡ map (λ c. one (item (Items.Char c))) (take l.c-index l.text)
