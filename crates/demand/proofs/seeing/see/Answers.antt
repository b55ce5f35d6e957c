use Rattle.std.proofs.Common.{ap, subst, Err}
use Rattle.lists.specs.Distinct.{AreDistinct}
use Rattle.demand.proofs.seeing.see.Goals as goal

pub returns-in-Err-Full-clause-stops : goal.returns-in-Err-Full-clause-stops
returns-in-Err-Full-clause-stops c =
    let full = c.in-Err-Full.ensures.full.0 (ap (λ e. Err e) c.in-Err-Full.field-0-is) in
    record { distinct = subst AreDistinct c.in-Err-Full.ensures.err c.in-Err-Full.ensures.distinct; fresh = full.0; full = full.1 }
