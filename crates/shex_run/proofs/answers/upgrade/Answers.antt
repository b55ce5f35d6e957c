use Rattle.std.proofs.Common.{refl, subst, sym, true}
use Rattle.std.proofs.lemmas.Result.{err_from_is_err_and}
use Rattle.command_words.specs.Lent.{command_of}
use Rattle.command_words.specs.declared.command.Command.TheVariants as Lent
use Rattle.shex_inputs.specs.Held.{held_by}
use Rattle.shex_run.specs.Endings.{IsResponse}
use Rattle.shex_run.specs.Storing.{Upgrades}
use Rattle.shex_run.specs.Tasks.{inputs_of}
use Rattle.shex_run.proofs.Answering.{fetch_stopped, upgrade_stopped, upgraded}
use Rattle.shex_run.proofs.Digests.{head_fits}
use Rattle.shex_run.proofs.answers.upgrade.Goals as goal

pub confirm_newest-requires-clause-fits : goal.confirm_newest-requires-clause-fits
confirm_newest-requires-clause-fits g c =
    head_fits (g.F.Files.told c.args.files.now) (inputs_of (command_of (Lent.Upgrade c.args.upgrading.now)))
    (held_by c.args.holding.now c.args.digests.now) c.requires.taken c.requires.loaded true

pub returns-clause-response : goal.returns-clause-response
returns-clause-response g c =
    let told = g.F.Files.told c.args.files.now in
    let k = command_of (Lent.Upgrade c.args.upgrading.now) in
    let v = c.args.upgrading.now in
    let after = g.F.Files.told c.store.new.files in
    let text = c.in_ok-text.field-0.text.items in
    let held = held_by c.args.holding.now c.args.digests.now in
    let bytes = c.in_ok-bytes.bytes.items in
    subst (λ notes. IsResponse told after k 0 text notes) (sym c.new.ensures.items)
    (upgraded told k held c.requires.taken v.proof.now refl bytes c.in_ok-bytes.ensures.bytes v.to.now refl text c.as_slice.result.now
    (subst (λ new. Upgrades held bytes text new) (sym c.as_slice.ensures.value) c.in_ok-text.ensures.upgrades)
    (g.F.Files.told c.fetch_proof.new.files) after c.fetch_proof.ensures.told_stays c.in_ok-store.ensures.holds c.store.ensures.others)

pub returns-in_err-store-clause-cause : goal.returns-in_err-store-clause-cause
returns-in_err-store-clause-cause g c =
    let p = err_from_is_err_and c.from_residual-in_err-store.result c.from_residual-in_err-store.ensures.1 in
    let told = g.F.Files.told c.args.files.now in
    let k = command_of (Lent.Upgrade c.args.upgrading.now) in
    let v = c.args.upgrading.now in
    let text = c.in_ok-text.field-0.text.items in
    let held = held_by c.args.holding.now c.args.digests.now in
    let bytes = c.in_ok-bytes.bytes.items in
    let mid = c.fetch_proof.new.files in
    rw (p.1, p.2)
    ((upgrade_stopped told k held c.requires.taken v.proof.now refl bytes c.in_ok-bytes.ensures.bytes v.to.now refl text c.as_slice.result.now
    (subst (λ new. Upgrades held bytes text new) (sym c.as_slice.ensures.value) c.in_ok-text.ensures.upgrades) (g.F.Files.told mid) (g.F.Files.told c.store.new.files) c.fetch_proof.ensures.told_stays
    (g.F.Files.faults mid) (g.F.Files.faults c.store.new.files) (g.F.Files.blame c.store.new.files)
    (g.F.Files.act c.store.new.files) c.in_err-store.field-0.0 c.in_err-store.ensures.stops c.in_err-store.ensures.part c.store.ensures.others).cause)

pub returns-in_err-store-clause-stored : goal.returns-in_err-store-clause-stored
returns-in_err-store-clause-stored g c =
    let p = err_from_is_err_and c.from_residual-in_err-store.result c.from_residual-in_err-store.ensures.1 in
    let told = g.F.Files.told c.args.files.now in
    let k = command_of (Lent.Upgrade c.args.upgrading.now) in
    let v = c.args.upgrading.now in
    let text = c.in_ok-text.field-0.text.items in
    let held = held_by c.args.holding.now c.args.digests.now in
    let bytes = c.in_ok-bytes.bytes.items in
    let mid = c.fetch_proof.new.files in
    rw (p.1, p.2)
    ((upgrade_stopped told k held c.requires.taken v.proof.now refl bytes c.in_ok-bytes.ensures.bytes v.to.now refl text c.as_slice.result.now
    (subst (λ new. Upgrades held bytes text new) (sym c.as_slice.ensures.value) c.in_ok-text.ensures.upgrades) (g.F.Files.told mid) (g.F.Files.told c.store.new.files) c.fetch_proof.ensures.told_stays
    (g.F.Files.faults mid) (g.F.Files.faults c.store.new.files) (g.F.Files.blame c.store.new.files)
    (g.F.Files.act c.store.new.files) c.in_err-store.field-0.0 c.in_err-store.ensures.stops c.in_err-store.ensures.part c.store.ensures.others).stored)

pub returns-in_err-bytes-clause-cause : goal.returns-in_err-bytes-clause-cause
returns-in_err-bytes-clause-cause g c =
    let p = err_from_is_err_and c.from_residual.result c.from_residual.ensures.1 in
    let new = c.fetch_proof.new.files in
    rw (p.1, p.2)
    ((fetch_stopped (g.F.Files.told c.args.files.now) (command_of (Lent.Upgrade c.args.upgrading.now))
    (held_by c.args.holding.now c.args.digests.now) c.requires.taken c.args.upgrading.now.proof.now refl
    (g.F.Files.told new) c.fetch_proof.ensures.told_stays (g.F.Files.faults c.args.files.now) (g.F.Files.faults new) (g.F.Files.blame new)
    (g.F.Files.act new) c.in_err-bytes.field-0.0 c.in_err-bytes.ensures.stops).cause)

pub returns-in_err-bytes-clause-faults : goal.returns-in_err-bytes-clause-faults
returns-in_err-bytes-clause-faults g c =
    let p = err_from_is_err_and c.from_residual.result c.from_residual.ensures.1 in
    let new = c.fetch_proof.new.files in
    rw (p.1, p.2)
    ((fetch_stopped (g.F.Files.told c.args.files.now) (command_of (Lent.Upgrade c.args.upgrading.now))
    (held_by c.args.holding.now c.args.digests.now) c.requires.taken c.args.upgrading.now.proof.now refl
    (g.F.Files.told new) c.fetch_proof.ensures.told_stays (g.F.Files.faults c.args.files.now) (g.F.Files.faults new) (g.F.Files.blame new)
    (g.F.Files.act new) c.in_err-bytes.field-0.0 c.in_err-bytes.ensures.stops).faults)
