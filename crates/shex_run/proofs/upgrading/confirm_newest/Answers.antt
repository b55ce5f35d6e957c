use Rattle.std.proofs.Common.{subst}
use Rattle.std.proofs.lemmas.Result.{err_from_is_err_and}
use Rattle.shex_inputs.specs.Held.{held_by}
use Rattle.shex_run.specs.Checking.{Confirms}
use Rattle.shex_run.proofs.Newest.{upgrades}
use Rattle.shex_run.proofs.upgrading.confirm_newest.Goals as goal

pub returns-clause-upgrades : goal.returns-clause-upgrades
returns-clause-upgrades c =
    let held = held_by c.args.holding.now c.args.digests.now in
    upgrades held c.in_ok-head.head c.args.proof.items c.in_ok-text.text.items c.in_ok-proof.proof.items c.requires.strata c.in_ok-head.ensures
    (subst (λ bytes. Confirms held bytes c.in_ok-text.text.items) c.as_slice.ensures.value c.in_ok-text.ensures.confirmed) c.in_ok-proof.ensures.newest

pub returns-in_err-head-clause-stops : goal.returns-in_err-head-clause-stops
returns-in_err-head-clause-stops c =
    let p = err_from_is_err_and c.from_residual.result c.from_residual.ensures.1 in
    rw (p.1, p.2) tt
