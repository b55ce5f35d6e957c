use Rattle.std.proofs.Common.{◌∙◌, subst, sym}
use Rattle.shex_inputs.specs.Held.{held_by}
use Rattle.tool_words.specs.Lent.{editing_of}
use Rattle.session_run.specs.Outcomes.{AreHeld, HoldsScript}
use Rattle.session_run.specs.Stopping.{Explains, FaultsAs}
use Rattle.session_run.proofs.Stopped.{answers_of, cause_of, faults_of}
use Rattle.session_run.proofs.responding.respond.Goals as goal

pub read_commands-requires : goal.read_commands-requires
read_commands-requires g c =
    let (digests, held) = c.in_ok-holding.ensures.held in
    (digests, subst (λ t. AreHeld t (editing_of c.args.editing.now) (held_by c.in_ok-holding.holding digests)) (sym c.hold.ensures.told_stays) held)

pub returns-in-Err-clause-cause : goal.returns-in-Err-clause-cause
returns-in-Err-clause-cause g c = subst (λ t. Explains t (editing_of c.args.editing.now) c.in-Err.stop) c.hold.ensures.told_stays c.in-Err.ensures.cause

pub returns-in-Err-clause-faults : goal.returns-in-Err-clause-faults
returns-in-Err-clause-faults g c =
    subst (λ n. FaultsAs (editing_of c.args.editing.now) n (g.F.Files.faults c.read_commands.new.files) (g.F.Files.blame c.read_commands.new.files) (g.F.Files.act c.read_commands.new.files) c.in-Err.stop)
    c.in_ok-holding.ensures.faults_stay c.in-Err.ensures.faults

pub returns-in-Ok-clause-answers : goal.returns-in-Ok-clause-answers
returns-in-Ok-clause-answers g c =
    let (digests, held) = c.in_ok-holding.ensures.held in
    answers_of (g.F.Files.told c.args.files.now) (editing_of c.args.editing.now) (held_by c.in_ok-holding.holding digests) held c.in-Ok.commands.items
    (subst (λ t. HoldsScript t (editing_of c.args.editing.now) c.in-Ok.commands.items) c.hold.ensures.told_stays c.in-Ok.ensures.script) c.answer.result
    (c.answer.ensures.answers digests)

pub returns-in-Ok-clause-cause : goal.returns-in-Ok-clause-cause
returns-in-Ok-clause-cause g c =
    let (digests, held) = c.in_ok-holding.ensures.held in
    cause_of (g.F.Files.told c.args.files.now) (editing_of c.args.editing.now) (held_by c.in_ok-holding.holding digests) held c.in-Ok.commands.items
    (subst (λ t. HoldsScript t (editing_of c.args.editing.now) c.in-Ok.commands.items) c.hold.ensures.told_stays c.in-Ok.ensures.script)
    (g.F.Files.faults c.args.files.now) (g.F.Files.faults c.read_commands.new.files) (g.F.Files.blame c.read_commands.new.files)
    (g.F.Files.act c.read_commands.new.files) c.answer.result (c.answer.ensures.stops digests)

pub returns-in-Ok-clause-faults : goal.returns-in-Ok-clause-faults
returns-in-Ok-clause-faults g c =
    let (digests, held) = c.in_ok-holding.ensures.held in
    faults_of (g.F.Files.told c.args.files.now) (editing_of c.args.editing.now) (held_by c.in_ok-holding.holding digests) held c.in-Ok.commands.items
    (subst (λ t. HoldsScript t (editing_of c.args.editing.now) c.in-Ok.commands.items) c.hold.ensures.told_stays c.in-Ok.ensures.script)
    (g.F.Files.faults c.args.files.now) (g.F.Files.faults c.read_commands.new.files) (g.F.Files.blame c.read_commands.new.files)
    (g.F.Files.act c.read_commands.new.files) (c.in-Ok.ensures.faults_stay ∙ c.in_ok-holding.ensures.faults_stay) c.answer.result
    (c.answer.ensures.stops digests)
