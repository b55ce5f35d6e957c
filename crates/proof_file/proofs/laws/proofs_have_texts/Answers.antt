use Rattle.std.proofs.Common.{refl}
use Rattle.proof_file.proofs.laws.proofs_have_texts.Goals as goal

pub returns : goal.returns
returns c = λ p keeps unicode feeds. (record { keeps = keeps; unicode = unicode; no_feeds = feeds; spelled = refl }, λ bytes h. h.spelled)
