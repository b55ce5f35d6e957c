use Rattle.std.proofs.Common.{subst, sym}
use Rattle.command_words.specs.Lent.{command_of}
use Rattle.shex_inputs.specs.Held.{IsTaken, held_by}
use Rattle.shex_run.specs.Tasks.{inputs_of}
use Rattle.shex_run.proofs.answers.answer.Goals as goal

pub check-requires-clause-taken : goal.check-requires-clause-taken
check-requires-clause-taken g c =
    let told = g.F.Files.told c.args.files.now in
    subst (λ k. IsTaken told (inputs_of (command_of k)) (held_by c.args.holding.now c.kept-digests.result)) c.in-Check.is
    (subst (λ d. IsTaken told (inputs_of (command_of c.args.command.now)) (held_by c.args.holding.now d))
    (sym (c.kept-digests.ensures c.requires.taken.files c.requires.taken.kept)) c.requires.taken.taken)

pub upgrade-requires-clause-taken : goal.upgrade-requires-clause-taken
upgrade-requires-clause-taken g c =
    let told = g.F.Files.told c.args.files.now in
    subst (λ k. IsTaken told (inputs_of (command_of k)) (held_by c.args.holding.now c.kept-digests-in-Upgrade.result)) c.in-Upgrade.is
    (subst (λ d. IsTaken told (inputs_of (command_of c.args.command.now)) (held_by c.args.holding.now d))
    (sym (c.kept-digests-in-Upgrade.ensures c.requires.taken.files c.requires.taken.kept)) c.requires.taken.taken)
