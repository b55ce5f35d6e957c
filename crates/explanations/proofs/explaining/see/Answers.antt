use Rattle.lists.proofs.Additions.{kept_at}
use Rattle.explanations.proofs.Numbering.{numbered_next, numbers_one}
use Rattle.explanations.proofs.explaining.see.Goals as goal

pub returns-clause-numbers : goal.returns-clause-numbers
returns-clause-numbers c = λ s terms view fails.
    numbers_one s terms view c.args.seen.now c.number.new.self c.args.subject c.in_ok-number.number c.in_ok-number.ensures.added c.in_ok-number.ensures.number fails

pub returns-clause-is : goal.returns-clause-is
returns-clause-is c = λ all on.
    numbered_next all c.in_ok-number.number c.args.subject (kept_at c.number.new.self all c.in_ok-number.number c.args.subject on c.in_ok-number.ensures.number)
