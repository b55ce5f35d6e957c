use Rattle.std.proofs.Common.{refl}
use Rattle.std.proofs.lemmas.Result.{err_from_is_err_and}
use Rattle.command_words.specs.Lent.{command_of}
use Rattle.command_words.specs.declared.command.Command.TheVariants as Lent
use Rattle.shex_inputs.specs.Held.{held_by}
use Rattle.shex_run.proofs.Answering.{fetch_stopped}
use Rattle.shex_run.proofs.answers.check.Goals as goal

pub returns-in_err-bytes-clause-cause : goal.returns-in_err-bytes-clause-cause
returns-in_err-bytes-clause-cause g c =
    let p = err_from_is_err_and c.from_residual.result c.from_residual.ensures.1 in
    let new = c.fetch_proof.new.files in
    rw (p.1, p.2)
    ((fetch_stopped (g.F.Files.told c.args.files.now) (command_of (Lent.Check c.args.checking.now))
    (held_by c.args.holding.now c.args.digests.now) c.requires.taken c.args.checking.now.proof.now refl
    (g.F.Files.told new) c.fetch_proof.ensures.told_stays (g.F.Files.faults c.args.files.now) (g.F.Files.faults new) (g.F.Files.blame new)
    (g.F.Files.act new) c.in_err-bytes.field-0.0 c.in_err-bytes.ensures.stops).cause)

pub returns-in_err-bytes-clause-faults : goal.returns-in_err-bytes-clause-faults
returns-in_err-bytes-clause-faults g c =
    let p = err_from_is_err_and c.from_residual.result c.from_residual.ensures.1 in
    let new = c.fetch_proof.new.files in
    rw (p.1, p.2)
    ((fetch_stopped (g.F.Files.told c.args.files.now) (command_of (Lent.Check c.args.checking.now))
    (held_by c.args.holding.now c.args.digests.now) c.requires.taken c.args.checking.now.proof.now refl
    (g.F.Files.told new) c.fetch_proof.ensures.told_stays (g.F.Files.faults c.args.files.now) (g.F.Files.faults new) (g.F.Files.blame new)
    (g.F.Files.act new) c.in_err-bytes.field-0.0 c.in_err-bytes.ensures.stops).faults)
