use Rattle.std.proofs.Common.{◌≡◌, ◌^◌, ◌<◌, ℕ, length, false}
use Rattle.std.specs.Prelude.{slice_index_or}
use Rattle.xs_pattern.specs.Marked.{all_known, inside, marks_of}
use Rattle.xs_pattern.specs.Way.{next, size, way_of}
use Rattle.xs_pattern.proofs.words.fill_rows.Given as goal

abbrev pub invariant-loop-position : goal.invariant-loop-position
invariant-loop-position l =
    (length l.rows.items ≡ l.position)
    × ((j : ℕ) → j < l.position → marks_of (size (way_of l.way)) (slice_index_or l.rows.items j 0)
    ≡ next inside (all_known (length l.all)) (way_of l.way) false (marks_of (size (way_of l.way)) (2 ^ j)))
