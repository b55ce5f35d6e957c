use Rattle.proof_file.proofs.Apart.{proofs_same}
use Rattle.proof_file.proofs.laws.proof_texts_are_distinct.Goals as goal

pub returns : goal.returns
returns c = proofs_same
