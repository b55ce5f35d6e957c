use Rattle.xs_pattern.proofs.Decided.{never_falls}
use Rattle.xs_pattern.proofs.laws.places_never_fall.Goals as goal

pub returns : goal.returns
returns c = never_falls
