use Rattle.std.proofs.Common.{◌≡◌}
use Rattle.rdf_cursor.specs.Ahead.{count}
use Rattle.rdf_cursor.specs.Readers.{loop}
use Rattle.rdf_cursor.specs.declared.symbols.Symbol.TheVariants.{Comma}
use Rattle.rdf_cursor.specs.Cursors.{ahead, source_in}
use Rattle.term_tokens.specs.Scopes.{scope_in}
use Rattle.shape_map.specs.Reading.{behind}
use Rattle.rdf_cursor.specs.Symbols.{is_symbol}
use Rattle.shape_map.proofs.grammar.further.Given as goal

abbrev pub invariant-loop-c : goal.invariant-loop-c
invariant-loop-c l =
    (loop (is_symbol Comma) (behind (scope_in l.nodes) (scope_in l.labels)) l.items.items (ahead l.c)
    ≡ loop (is_symbol Comma) (behind (scope_in l.nodes) (scope_in l.labels)) l.fn.items.items (ahead l.fn.c)) × (source_in l.c ≡ source_in l.fn.c)

abbrev pub decreases-loop-c : goal.decreases-loop-c
decreases-loop-c l = count (ahead l.c)
