use Rattle.xs_text.proofs.Integers.{decimal_from_integer}
use Rattle.xs_text.proofs.Names.{numeric_texts_are_decimals}
use Rattle.xs_text.proofs.laws.numbers_are_decimals.Goals as goal

pub returns-clause-integers : goal.returns-clause-integers
returns-clause-integers c = decimal_from_integer

pub returns-clause-numeric : goal.returns-clause-numeric
returns-clause-numeric c = numeric_texts_are_decimals
