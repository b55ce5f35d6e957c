use Rattle.nonconformance.proofs.Members.{end_times}
use Rattle.nonconformance.proofs.bounds.repeated_up_to.Goals as goal

pub returns : goal.returns
returns c = end_times _ _ _ _ _ c.if-max-eq0.false c.in_ok-most.was c.from.ensures c.saturating_mul.ensures
