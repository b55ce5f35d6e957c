use Rattle.std.proofs.Common.{subst}
use Rattle.std.specs.Prelude.{IfErr, IfOk}
use Rattle.command_words.specs.Lent.{command_of}
use Rattle.shex_run.specs.Endings.{IsResponse}
use Rattle.shex_run.specs.Stopping.{Explains, FaultsAs, LeavesStored}
use Rattle.shex_run.proofs.answers.respond.Goals as goal

pub returns-clause-response : goal.returns-clause-response
returns-clause-response g c =
    subst (λ t. IfOk c.answer-response.result (λ r. IsResponse t (g.F.Files.told c.answer-response.new.files) (command_of c.args.command.now) r.status r.text.items r.notes.items)) c.hold.ensures.told_stays c.answer-response.ensures.response

pub returns-clause-cause : goal.returns-clause-cause
returns-clause-cause g c =
    subst (λ t. IfErr c.answer-response.result (Explains t (command_of c.args.command.now))) c.hold.ensures.told_stays c.answer-response.ensures.cause

pub returns-clause-faults : goal.returns-clause-faults
returns-clause-faults g c =
    subst (λ k. IfErr c.answer-response.result (FaultsAs (command_of c.args.command.now) k (g.F.Files.faults c.answer-response.new.files) (g.F.Files.blame c.answer-response.new.files) (g.F.Files.act c.answer-response.new.files))) c.in_ok-holding.ensures.faults_stay c.answer-response.ensures.faults

pub returns-clause-stored : goal.returns-clause-stored
returns-clause-stored g c =
    subst (λ t. IfErr c.answer-response.result (LeavesStored t (g.F.Files.told c.answer-response.new.files) (command_of c.args.command.now))) c.hold.ensures.told_stays c.answer-response.ensures.stored
