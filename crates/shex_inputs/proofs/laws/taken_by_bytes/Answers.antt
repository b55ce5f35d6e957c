use Rattle.shex_inputs.proofs.Moved.{taken_by_bytes}
use Rattle.shex_inputs.proofs.laws.taken_by_bytes.Goals as goal

pub returns : goal.returns
returns c = taken_by_bytes
