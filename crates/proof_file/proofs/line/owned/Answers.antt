use Rattle.proof_file.proofs.Parts.{owned_text}
use Rattle.proof_file.proofs.line.owned.Goals as goal

pub returns : goal.returns
returns c = owned_text c.args.text.now c.in_ok-from_str.field-0 c.utf8.text c.in_ok-from_str.ensures
