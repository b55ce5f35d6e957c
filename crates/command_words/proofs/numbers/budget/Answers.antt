use Rattle.std.proofs.Common.{arith}
use Rattle.command_words.proofs.Budgets.{no_budget}
use Rattle.command_words.proofs.numbers.budget.Goals as goal

pub returns-in_default-unsigned_long-clause-missed : goal.returns-in_default-unsigned_long-clause-missed
returns-in_default-unsigned_long-clause-missed c = λ none.
    no_budget c.args.value c.in-Some.text c.in-Some-unsigned_long.n c.in-Some.is c.in-Some-unsigned_long.ensures.found c.in-Some-unsigned_long.ensures.small (λ low high. omega (arith, c.if-n-le-MAX_BUDGET.false))

pub returns-in_default-unsigned_long-2-clause-missed : goal.returns-in_default-unsigned_long-2-clause-missed
returns-in_default-unsigned_long-2-clause-missed c = λ none.
    no_budget c.args.value c.in-Some.text c.in-Some-unsigned_long.n c.in-Some.is c.in-Some-unsigned_long.ensures.found c.in-Some-unsigned_long.ensures.small (λ low high. omega (arith, c.if-n-ge1.false))
