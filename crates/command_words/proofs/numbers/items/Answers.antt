use Rattle.std.proofs.Common.{arith}
use Rattle.command_words.proofs.Drilled.{no_items}
use Rattle.command_words.proofs.numbers.items.Goals as goal

pub returns-in_default-clause-missed : goal.returns-in_default-clause-missed
returns-in_default-clause-missed c = λ none.
    no_items c.args.text.now c.in-Some.n c.in-Some.ensures.found c.in-Some.ensures.small (λ low high. omega (arith, c.if-n-le-MAX_ITEMS.false))

pub returns-in_default-2-clause-missed : goal.returns-in_default-2-clause-missed
returns-in_default-2-clause-missed c = λ none.
    no_items c.args.text.now c.in-Some.n c.in-Some.ensures.found c.in-Some.ensures.small (λ low high. omega (arith, c.if-n-ge1.false))
