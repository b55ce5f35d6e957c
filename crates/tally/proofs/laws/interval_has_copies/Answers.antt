use Rattle.tally.proofs.Exact.{copies_span, span_copies}
use Rattle.tally.proofs.laws.interval_has_copies.Goals as goal

pub returns : goal.returns
returns c = λ p counts k sound. (span_copies p counts k sound, copies_span p counts k)
