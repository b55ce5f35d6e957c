use Rattle.std.proofs.Common.{length}
use Rattle.xs_pattern.proofs.characters.+class_has.Given as goal

abbrev pub decreases-class_has : goal.decreases-class_has
decreases-class_has l = length l.groups.now
