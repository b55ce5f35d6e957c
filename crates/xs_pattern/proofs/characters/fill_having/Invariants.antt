use Rattle.std.proofs.Common.{◌≡◌, ◌++◌, drop, map}
use Rattle.xs_pattern.specs.Regex.{chars_of}
use Rattle.xs_pattern.specs.Unrolling.{having}
use Rattle.xs_pattern.proofs.characters.fill_having.Given as goal

abbrev pub invariant-loop-set : goal.invariant-loop-set
invariant-loop-set l = l.answers.items ++ having l.flags (map chars_of (drop l.set-index l.sets)) l.c ≡ having l.flags (map chars_of l.sets) l.c
