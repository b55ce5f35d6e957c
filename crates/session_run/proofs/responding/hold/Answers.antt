use Rattle.std.proofs.Common.{[]}
use Rattle.std.proofs.lemmas.Result.{err_from_is_err_and}
use Rattle.tool_words.specs.Lent.{editing_of}
use Rattle.session_run.proofs.Stopped.{input_explains, input_faults}
use Rattle.session_run.proofs.responding.hold.Goals as goal

pub returns-in_err-holding-clause-cause : goal.returns-in_err-holding-clause-cause
returns-in_err-holding-clause-cause g c =
    let p = err_from_is_err_and c.from_residual.result c.from_residual.ensures.1 in
    rw (p.1, p.2) (input_explains (g.F.Files.told c.args.files.now) (editing_of c.args.editing.now) (g.F.Files.faults c.args.files.now) (g.F.Files.faults c.read_holding.new.files) (g.F.Files.blame c.read_holding.new.files) (g.F.Files.act c.read_holding.new.files)
    c.in_err-holding.field-0.0 c.in_err-holding.ensures.before_map (c.in_err-holding.ensures.cause []))

pub returns-in_err-holding-clause-faults : goal.returns-in_err-holding-clause-faults
returns-in_err-holding-clause-faults g c =
    let p = err_from_is_err_and c.from_residual.result c.from_residual.ensures.1 in
    rw (p.1, p.2) (input_faults (g.F.Files.told c.args.files.now) (editing_of c.args.editing.now) (g.F.Files.faults c.args.files.now) (g.F.Files.faults c.read_holding.new.files) (g.F.Files.blame c.read_holding.new.files) (g.F.Files.act c.read_holding.new.files)
    c.in_err-holding.field-0.0 (c.in_err-holding.ensures.faults []))

pub returns-clause-held : goal.returns-clause-held
returns-clause-held g c = let held = c.in_ok-holding.ensures.taken [] in (held.files, held.taken)
