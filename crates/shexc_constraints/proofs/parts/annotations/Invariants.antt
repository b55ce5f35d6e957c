use Rattle.std.proofs.Common.{◌≡◌}
use Rattle.rdf_cursor.specs.Ahead.{count}
use Rattle.rdf_cursor.specs.Readers.{loop}
use Rattle.rdf_cursor.specs.Cursors.{ahead, source_in}
use Rattle.term_tokens.specs.Scopes.{scope_in}
use Rattle.rdf_cursor.specs.Symbols.{is_symbol}
use Rattle.shexc_constraints.specs.Reading.{annotation}
use Rattle.rdf_cursor.specs.declared.symbols.Symbol.TheVariants.{Slashes}
use Rattle.shexc_constraints.proofs.parts.annotations.Given as goal

abbrev pub invariant-loop-c : goal.invariant-loop-c
invariant-loop-c l =
    (loop (is_symbol Slashes) (λ _. annotation (scope_in l.names)) tt (ahead l.c)
    ≡ loop (is_symbol Slashes) (λ _. annotation (scope_in l.names)) tt (ahead l.fn.c)) × (source_in l.c ≡ source_in l.fn.c)

abbrev pub decreases-loop-c : goal.decreases-loop-c
decreases-loop-c l = count (ahead l.c)
