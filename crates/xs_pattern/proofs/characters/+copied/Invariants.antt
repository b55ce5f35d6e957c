use Rattle.std.proofs.Common.{◌≡◌, ◌++◌, drop, map}
use Rattle.xs_pattern.specs.Regex.{chars_of, regexes_of}
use Rattle.xs_pattern.specs.Unrolling.{all_sets}
use Rattle.xs_pattern.proofs.characters.+copied.Given as goal

abbrev pub invariant-add_all_sets-loop-part : goal.invariant-add_all_sets-loop-part
invariant-add_all_sets-loop-part l =
    map chars_of l.all.items ++ all_sets (regexes_of (drop l.part-index l.parts)) ≡ map chars_of l.fn.all.items ++ all_sets (regexes_of l.parts)
