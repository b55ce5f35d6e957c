use Rattle.std.proofs.Common.{◌≡◌}
use Rattle.rdf_cursor.specs.Ahead.{count}
use Rattle.rdf_cursor.specs.Readers.{loop}
use Rattle.rdf_cursor.specs.Cursors.{ahead, source_in}
use Rattle.term_tokens.specs.Scopes.{scope_in}
use Rattle.rdf_cursor.specs.Symbols.{is_symbol}
use Rattle.shexc_constraints.specs.TextKinds.{texts}
use Rattle.shexc_constraints.specs.Reading.{exclusion}
use Rattle.rdf_cursor.specs.declared.symbols.Symbol.TheVariants.{Minus}
use Rattle.shexc_constraints.proofs.values.exclusions.Given as goal

abbrev pub invariant-loop-kind : goal.invariant-loop-kind
invariant-loop-kind l =
    (loop (is_symbol Minus) (exclusion (scope_in l.names) (texts (scope_in l.names) l.kind)) l.xs.items (ahead l.c)
    ≡ loop (is_symbol Minus) (exclusion (scope_in l.names) (texts (scope_in l.names) l.kind)) l.fn.xs.items (ahead l.fn.c)) × (source_in l.c ≡ source_in l.fn.c)

abbrev pub decreases-loop-kind : goal.decreases-loop-kind
decreases-loop-kind l = count (ahead l.c)
