use Rattle.std.proofs.Common.{◌≡◌, List, true}
use Rattle.std.specs.Str.{chars}
use Rattle.xs_pattern.specs.Marked.{AreWords, marks_of}
use Rattle.xs_pattern.specs.Regex.{Chars}
use Rattle.xs_pattern.specs.Way.{Way, size}
use Rattle.xs_pattern.proofs.Search.{IsReadUpTo}
use Rattle.xs_pattern.proofs.words.Words.is_found.Given as goal

abbrev pub invariant-loop-c : goal.invariant-loop-c
invariant-loop-c l =
    (l.start ≡ true → l.set ≡ 0)
    × ((ss : List Chars) (w : Way) → AreWords ss w l.self
    → IsReadUpTo l.flags ss (chars l.text) w l.yielded l.c-iterator.rest.now l.start (marks_of (size w) l.set))
