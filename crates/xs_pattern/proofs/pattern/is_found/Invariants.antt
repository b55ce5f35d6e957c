use Rattle.std.specs.Prelude.{map}
use Rattle.std.specs.Str.{chars}
use Rattle.xs_pattern.specs.Regex.{chars_of}
use Rattle.xs_pattern.specs.Way.{way_of}
use Rattle.xs_pattern.proofs.Search.{IsReadUpTo}
use Rattle.xs_pattern.proofs.pattern.is_found.Given as goal

abbrev pub invariant-loop-c : goal.invariant-loop-c
invariant-loop-c l =
    IsReadUpTo l.flags (map chars_of l.sets) (chars l.text) (way_of l.way) l.yielded l.c-iterator.rest.now l.start l.marks.items
