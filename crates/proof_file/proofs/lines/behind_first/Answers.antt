use Rattle.std.proofs.Common.{rules, inr, refl}
use Rattle.proof_file.proofs.lines.behind_first.Goals as goal

pub returns-in-Some-strip_prefix : goal.returns-in-Some-strip_prefix
returns-in-Some-strip_prefix c = inr (refl, search rules)
