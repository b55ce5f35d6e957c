use Rattle.std.proofs.Common.{subst}
use Rattle.std.proofs.lemmas.Result.{err_from_is_err_and}
use Rattle.session_script.specs.Scripts.{IsScript}
use Rattle.shex_inputs.specs.Held.{held_by}
use Rattle.tool_words.specs.Lent.{editing_of}
use Rattle.session_run.proofs.Stopped.{fetch_explains, fetch_faults, script_explains, script_faults}
use Rattle.session_run.proofs.responding.read_commands.Goals as goal

pub returns-in_err-bytes-clause-cause : goal.returns-in_err-bytes-clause-cause
returns-in_err-bytes-clause-cause g c =
    let p = err_from_is_err_and c.from_residual.result c.from_residual.ensures.1 in
    rw (p.1, p.2) (fetch_explains (g.F.Files.told c.args.files.now) (editing_of c.args.editing.now) _ _ _ _
    (held_by c.args.holding.now c.requires.0) c.requires.1 _ c.in_err-bytes.ensures.stops)

pub returns-in_err-bytes-clause-faults : goal.returns-in_err-bytes-clause-faults
returns-in_err-bytes-clause-faults g c =
    let p = err_from_is_err_and c.from_residual.result c.from_residual.ensures.1 in
    rw (p.1, p.2) (fetch_faults (g.F.Files.told c.args.files.now) (editing_of c.args.editing.now) _ _ _ _ _ c.in_err-bytes.ensures.stops)

pub returns-in_err-read_script-clause-cause : goal.returns-in_err-read_script-clause-cause
returns-in_err-read_script-clause-cause g c =
    let p = err_from_is_err_and c.from_residual-in_err-read_script.result c.from_residual-in_err-read_script.ensures.1 in
    rw p.1 (script_explains (g.F.Files.told c.args.files.now) (editing_of c.args.editing.now) (g.F.Files.faults c.args.files.now) (g.F.Files.faults c.fetch_script.new.files) (g.F.Files.blame c.fetch_script.new.files) (g.F.Files.act c.fetch_script.new.files)
    (held_by c.args.holding.now c.requires.0) c.requires.1 c.in_ok-bytes.bytes.items c.as_slice.result.now c.in_ok-bytes.ensures.bytes
    c.as_slice.ensures.value c.in_err-read_script.field-0.0 p.0 c.in_err-read_script.ensures.refused p.2)

pub returns-in_err-read_script-clause-faults : goal.returns-in_err-read_script-clause-faults
returns-in_err-read_script-clause-faults g c =
    let p = err_from_is_err_and c.from_residual-in_err-read_script.result c.from_residual-in_err-read_script.ensures.1 in
    rw p.1 (script_faults (g.F.Files.told c.args.files.now) (editing_of c.args.editing.now) (g.F.Files.faults c.args.files.now) (g.F.Files.faults c.fetch_script.new.files) (g.F.Files.blame c.fetch_script.new.files) (g.F.Files.act c.fetch_script.new.files)
    c.in_err-read_script.field-0.0 p.0 c.in_ok-bytes.ensures.faults_stay p.2)

pub returns-clause-script : goal.returns-clause-script
returns-clause-script g c = record {
  bytes = c.in_ok-bytes.bytes.items;
  file = c.in_ok-bytes.ensures.bytes;
  spelled = subst (λ bs. IsScript bs c.in_ok-read_script.field-0.items) c.as_slice.ensures.value c.in_ok-read_script.ensures.found;
}
