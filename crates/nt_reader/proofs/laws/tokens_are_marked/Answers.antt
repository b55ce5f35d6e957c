use Rattle.nt_reader.proofs.Quotes.{quote_short, short_quote}
use Rattle.nt_reader.proofs.Written.{label_written, tag_written}
use Rattle.nt_reader.proofs.laws.tokens_are_marked.Goals as goal

pub returns-clause-strings : goal.returns-clause-strings
returns-clause-strings c = λ text s. (quote_short text s, short_quote text)

pub returns-clause-labels : goal.returns-clause-labels
returns-clause-labels c = label_written

pub returns-clause-tags : goal.returns-clause-tags
returns-clause-tags c = tag_written
