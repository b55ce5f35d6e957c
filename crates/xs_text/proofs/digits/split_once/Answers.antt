use Rattle.std.proofs.Common.{◌==◌, ◌∙◌, sym, arith}
use Rattle.std.proofs.lemmas.Grind.{common_steps}
use Rattle.xs_text.proofs.Splits.{cut, uncut}
use Rattle.xs_text.proofs.digits.split_once.Goals as goal

pub returns-in-Some-clause-before : goal.returns-in-Some-clause-before
returns-in-Some-clause-before c =
    let at = cut (λ b. b == c.args.separator) c.args.text.now c.in-Some.at (sym c.in-Some.is ∙ c.find.ensures) in
    grind (arith, common_steps)

pub returns-in-Some-clause-after : goal.returns-in-Some-clause-after
returns-in-Some-clause-after c =
    let at = cut (λ b. b == c.args.separator) c.args.text.now c.in-Some.at (sym c.in-Some.is ∙ c.find.ensures) in
    grind (arith, common_steps)

pub returns-in-None-clause-before : goal.returns-in-None-clause-before
returns-in-None-clause-before c =
    let past = uncut (λ b. b == c.args.separator) c.args.text.now (sym c.in-None.is ∙ c.find.ensures) in
    grind (arith, common_steps)

pub returns-in-None-clause-after : goal.returns-in-None-clause-after
returns-in-None-clause-after c =
    let past = uncut (λ b. b == c.args.separator) c.args.text.now (sym c.in-None.is ∙ c.find.ensures) in
    grind (arith, common_steps)
