use Rattle.rdf_cursor.proofs.Streams.{to_tokens, from_tokens}
use Rattle.rdf_cursor.proofs.laws.streams_are_tokens.Goals as goal

pub returns : goal.returns
returns c = λ m source ts u. (to_tokens m source u ts, from_tokens m source u ts)
