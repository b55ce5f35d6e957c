use Rattle.std.proofs.Common.{◌≡◌}
use Rattle.rdf_cursor.specs.Ahead.{count}
use Rattle.rdf_cursor.specs.Readers.{loop}
use Rattle.rdf_cursor.specs.Cursors.{ahead, source_in}
use Rattle.term_tokens.specs.Scopes.{scope_in}
use Rattle.rdf_cursor.specs.Symbols.{is_other}
use Rattle.shexc_constraints.specs.Reading.{value_behind}
use Rattle.rdf_cursor.specs.declared.symbols.Symbol.TheVariants.{CloseBracket}
use Rattle.shexc_constraints.proofs.values.values.Given as goal

abbrev pub invariant-loop-c : goal.invariant-loop-c
invariant-loop-c l =
    (loop (is_other CloseBracket) (value_behind (scope_in l.names)) l.xs.items (ahead l.c)
    ≡ loop (is_other CloseBracket) (value_behind (scope_in l.names)) l.fn.xs.items (ahead l.fn.c)) × (source_in l.c ≡ source_in l.fn.c)

abbrev pub decreases-loop-c : goal.decreases-loop-c
decreases-loop-c l = count (ahead l.c)
