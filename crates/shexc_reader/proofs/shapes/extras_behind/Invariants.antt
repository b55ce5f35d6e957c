use Rattle.std.proofs.Common.{◌≡◌}
use Rattle.rdf_cursor.specs.Ahead.{count}
use Rattle.rdf_cursor.specs.Readers.{loop}
use Rattle.rdf_cursor.specs.Cursors.{ahead, source_in}
use Rattle.term_tokens.specs.Scopes.{scope_in}
use Rattle.rdf_cursor.specs.Symbols.{is_among}
use Rattle.shexc_constraints.specs.Symbols.{predicates}
use Rattle.shexc_reader.specs.Reading.{extra_behind}
use Rattle.shexc_reader.proofs.shapes.extras_behind.Given as goal

abbrev pub invariant-loop-c : goal.invariant-loop-c
invariant-loop-c l =
    (loop (is_among predicates) (extra_behind (scope_in l.names)) l.ps.items (ahead l.c)
    ≡ loop (is_among predicates) (extra_behind (scope_in l.names)) l.fn.ps.items (ahead l.fn.c)) × (source_in l.c ≡ source_in l.fn.c)

abbrev pub decreases-loop-c : goal.decreases-loop-c
decreases-loop-c l = count (ahead l.c)
