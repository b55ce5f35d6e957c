use Rattle.std.proofs.Common.{ap, Err}
use Rattle.std.proofs.lemmas.Result.{err_from_is_err_and}
use Rattle.lists.proofs.Additions.{adds_grows}
use Rattle.turtle_reader.proofs.ListLoading.{no_object, object_in, no_triple}
use Rattle.turtle_reader.proofs.loading.load_object.Goals as goal

pub returns-in_err-o-clause-loads : goal.returns-in_err-o-clause-loads
returns-in_err-o-clause-loads c = λ old s p b.
    let r = err_from_is_err_and c.from_residual.result c.from_residual.ensures.1 in
    rw (r.1, r.2) (no_object c.in_err-o.field-0.0 old _ _ _ _ s p _ _ _ b (λ e. c.in_err-o.ensures.full (ap Err e)))

pub returns-in-Ok-clause-loads : goal.returns-in-Ok-clause-loads
returns-in-Ok-clause-loads c = λ old s p b. object_in old _ _ _ s p _ _ b c.in_ok-o.ensures.added c.in_ok-o.ensures.number _ c.in-Ok.ensures.added

pub returns-in-Ok-clause-grown : goal.returns-in-Ok-clause-grown
returns-in-Ok-clause-grown c = adds_grows _ _ _ c.in_ok-o.ensures.added

pub returns-in-Ok-clause-appended : goal.returns-in-Ok-clause-appended
returns-in-Ok-clause-appended c = adds_grows _ _ _ c.in-Ok.ensures.added

pub returns-in-Err-Full-clause-loads : goal.returns-in-Err-Full-clause-loads
returns-in-Err-Full-clause-loads c =
    λ old s p b. no_triple old _ _ _ s p _ _ b c.in_ok-o.ensures.added c.in_ok-o.ensures.number c.in_ok-o.ensures.distinct (c.in-Err-Full.ensures.full.0 (ap Err c.in-Err-Full.field-0-is))
