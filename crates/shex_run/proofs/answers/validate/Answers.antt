use Rattle.std.proofs.Common.{subst, sym}
use Rattle.std.proofs.lemmas.Result.{err_from_is_err_and}
use Rattle.std.specs.Prelude.{IfErr, IfOk, is_some}
use Rattle.command_words.specs.Lent.{command_of}
use Rattle.command_words.specs.declared.command.Command.TheVariants as Lent
use Rattle.shex_run.specs.Endings.{IsResponse}
use Rattle.shex_run.specs.Ready.{IsReply}
use Rattle.shex_run.specs.Stopping.{Explains, FaultsAs, LeavesStored}
use Rattle.shex_run.proofs.answers.validate.Goals as goal

pub keep-requires : goal.keep-requires
keep-requires g c =
    let v = c.args.validation.now in
    let d = c.in_ok-decided.decided in
    subst (λ t. IsReply t (command_of (Lent.Validate v)) v.budget (is_some v.proof) d) (sym c.decide_map.ensures.told_stays)
    (subst (λ b. IsReply (g.F.Files.told c.args.files.now) (command_of (Lent.Validate v)) v.budget b d) c.requires.digests c.in_ok-decided.ensures.decided)

pub returns-clause-response : goal.returns-clause-response
returns-clause-response g c =
    subst (λ t. IfOk c.keep.result (λ r. IsResponse t (g.F.Files.told c.keep.new.files) (command_of (Lent.Validate c.args.validation.now)) r.status r.text.items r.notes.items)) c.decide_map.ensures.told_stays c.keep.ensures.response

pub returns-clause-cause : goal.returns-clause-cause
returns-clause-cause g c =
    subst (λ t. IfErr c.keep.result (Explains t (command_of (Lent.Validate c.args.validation.now)))) c.decide_map.ensures.told_stays c.keep.ensures.cause

pub returns-clause-faults : goal.returns-clause-faults
returns-clause-faults g c =
    subst (λ k. IfErr c.keep.result (FaultsAs (command_of (Lent.Validate c.args.validation.now)) k (g.F.Files.faults c.keep.new.files) (g.F.Files.blame c.keep.new.files) (g.F.Files.act c.keep.new.files))) c.in_ok-decided.ensures.faults_stay c.keep.ensures.faults

pub returns-clause-stored : goal.returns-clause-stored
returns-clause-stored g c =
    subst (λ t. IfErr c.keep.result (LeavesStored t (g.F.Files.told c.keep.new.files) (command_of (Lent.Validate c.args.validation.now)))) c.decide_map.ensures.told_stays c.keep.ensures.stored

pub returns-in_err-decided-clause-cause : goal.returns-in_err-decided-clause-cause
returns-in_err-decided-clause-cause g c =
    let p = err_from_is_err_and c.from_residual.result c.from_residual.ensures.1 in
    rw (p.1, p.2) c.in_err-decided.ensures.cause

pub returns-in_err-decided-clause-faults : goal.returns-in_err-decided-clause-faults
returns-in_err-decided-clause-faults g c =
    let p = err_from_is_err_and c.from_residual.result c.from_residual.ensures.1 in
    rw (p.1, p.2) c.in_err-decided.ensures.faults
