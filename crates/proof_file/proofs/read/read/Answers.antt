use Rattle.proof_file.proofs.Drafted.{draft_made}
use Rattle.proof_file.proofs.read.read.Goals as goal

pub returns-clause-found : goal.returns-clause-found
returns-clause-found c = draft_made c.add_lines.new.draft c.in_ok-finish.field-0 c.args.bytes.now c.in_ok-add_lines.ensures.found c.in_ok-finish.ensures
