use Rattle.std.proofs.Common.{true, ◌≡◌}
use Rattle.rdf_cursor.specs.Ahead.{count}
use Rattle.rdf_cursor.specs.Readers.{loop}
use Rattle.rdf_cursor.specs.Symbols.{is_any}
use Rattle.shexc_reader.specs.Documents.{state_of}
use Rattle.rdf_cursor.specs.Cursors.{ahead, source_in}
use Rattle.shexc_reader.specs.Reading.{statement}
use Rattle.shexc_reader.proofs.statements.statements.Given as goal

abbrev pub invariant-loop-c : goal.invariant-loop-c
invariant-loop-c l =
    (loop is_any (statement true l.depth) (state_of l.state) (ahead l.c)
    ≡ loop is_any (statement true l.depth) (state_of l.fn.state) (ahead l.fn.c)) × (source_in l.c ≡ source_in l.fn.c)

abbrev pub decreases-loop-c : goal.decreases-loop-c
decreases-loop-c l = count (ahead l.c)
