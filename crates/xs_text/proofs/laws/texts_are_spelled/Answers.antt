use Rattle.xs_text.proofs.Grammar.{decimals_are_spelled}
use Rattle.xs_text.proofs.DateTimeGrammar.{date_times_are_spelled}
use Rattle.xs_text.proofs.laws.texts_are_spelled.Goals as goal

pub returns-clause-decimals : goal.returns-clause-decimals
returns-clause-decimals c = decimals_are_spelled

pub returns-clause-date_times : goal.returns-clause-date_times
returns-clause-date_times c = date_times_are_spelled
