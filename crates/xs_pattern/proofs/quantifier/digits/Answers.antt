use Rattle.std.proofs.Common.{◌≡◌, rules, take}
use Rattle.xs_pattern.proofs.Numbers.{digits_front}
use Rattle.xs_pattern.proofs.quantifier.digits.Goals as goal

pub returns-clause-all : goal.returns-clause-all
returns-clause-all c =
    let front : c.split_at.result.0.now ≡ take c.digit_count-count.result c.args.text.now = search rules in
    digits_front c.args.text.now c.split_at.result.0.now c.digit_count-count.result c.digit_count-count.ensures.count front
