use Rattle.std.proofs.Common.{arith}
use Rattle.key_paths.proofs.trial.is_mended.Goals as goal

pub is_mended_by_text-requires-clause-inner : goal.is_mended_by_text-requires-clause-inner
is_mended_by_text-requires-clause-inner c = omega (arith, c.requires.inner)
