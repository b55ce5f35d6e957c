use Rattle.xs_text.proofs.CountLaws.{total_digits_are_least, fraction_digits_are_least}
use Rattle.xs_text.proofs.laws.digit_counts_are_least.Goals as goal

pub returns-clause-total : goal.returns-clause-total
returns-clause-total c = total_digits_are_least

pub returns-clause-fraction : goal.returns-clause-fraction
returns-clause-fraction c = fraction_digits_are_least
