use Rattle.std.proofs.Common.{◌≡◌, ◌+◌, ◌*◌, true}
use Rattle.rdf_cursor.specs.Ahead.{count}
use Rattle.rdf_cursor.specs.Readers.{loop}
use Rattle.rdf_cursor.specs.declared.symbols.Symbol.TheVariants.{Comma, Semicolon, CloseParenthesis}
use Rattle.rdf_cursor.specs.Cursors.{ahead, source_in}
use Rattle.turtle_reader.specs.Reading.{comma, semicolon, object, next_member}
use Rattle.turtle_reader.specs.Objects.{term_of}
use Rattle.turtle_reader.specs.States.{scope_of, anonymous}
use Rattle.rdf_cursor.specs.Symbols.{is_symbol, is_other}
use Rattle.turtle_reader.proofs.grammar.+grammar.Given as goal

abbrev pub decreases-object : goal.decreases-object
decreases-object l = l.depth * 16

abbrev pub decreases-one_object : goal.decreases-one_object
decreases-one_object l = l.depth * 16 + 1

abbrev pub decreases-comma : goal.decreases-comma
decreases-comma l = l.depth * 16 + 2

abbrev pub decreases-commas : goal.decreases-commas
decreases-commas l = l.depth * 16 + 3

abbrev pub decreases-objects : goal.decreases-objects
decreases-objects l = l.depth * 16 + 4

abbrev pub decreases-pair : goal.decreases-pair
decreases-pair l = l.depth * 16 + 5

abbrev pub decreases-semicolon : goal.decreases-semicolon
decreases-semicolon l = l.depth * 16 + 6

abbrev pub decreases-semicolons : goal.decreases-semicolons
decreases-semicolons l = l.depth * 16 + 7

abbrev pub decreases-predicates : goal.decreases-predicates
decreases-predicates l = l.depth * 16 + 8

abbrev pub decreases-node : goal.decreases-node
decreases-node l = l.depth * 16 + 9

abbrev pub decreases-in_cell : goal.decreases-in_cell
decreases-in_cell l = l.depth * 16 + 1

abbrev pub decreases-member : goal.decreases-member
decreases-member l = l.depth * 16 + 2

abbrev pub decreases-next_member : goal.decreases-next_member
decreases-next_member l = l.depth * 16 + 2

abbrev pub decreases-members : goal.decreases-members
decreases-members l = l.depth * 16 + 3

abbrev pub decreases-cells : goal.decreases-cells
decreases-cells l = l.depth * 16 + 4

abbrev pub decreases-collection : goal.decreases-collection
decreases-collection l = l.depth * 16 + 5

abbrev pub invariant-commas-loop-c : goal.invariant-commas-loop-c
invariant-commas-loop-c l =
    (loop (is_symbol Comma) (comma true (object true l.depth) (term_of l.subject) l.predicate) (scope_of l.state) (ahead l.c)
    ≡ loop (is_symbol Comma) (comma true (object true l.depth) (term_of l.subject) l.predicate) (scope_of l.fn.state) (ahead l.fn.c)) × (source_in l.c ≡ source_in l.fn.c)

abbrev pub decreases-commas-loop-c : goal.decreases-commas-loop-c
decreases-commas-loop-c l = count (ahead l.c)

abbrev pub invariant-semicolons-loop-c : goal.invariant-semicolons-loop-c
invariant-semicolons-loop-c l =
    (loop (is_symbol Semicolon) (semicolon true (object true l.depth) (term_of l.subject)) (scope_of l.state) (ahead l.c)
    ≡ loop (is_symbol Semicolon) (semicolon true (object true l.depth) (term_of l.subject)) (scope_of l.fn.state) (ahead l.fn.c)) × (source_in l.c ≡ source_in l.fn.c)

abbrev pub decreases-semicolons-loop-c : goal.decreases-semicolons-loop-c
decreases-semicolons-loop-c l = count (ahead l.c)

abbrev pub invariant-members-loop-c : goal.invariant-members-loop-c
invariant-members-loop-c l =
    (loop (is_other CloseParenthesis) (next_member true (object true l.depth)) (anonymous l.last, scope_of l.state) (ahead l.c)
    ≡ loop (is_other CloseParenthesis) (next_member true (object true l.depth)) (anonymous l.fn.first, scope_of l.fn.state) (ahead l.fn.c)) × (source_in l.c ≡ source_in l.fn.c)

abbrev pub decreases-members-loop-c : goal.decreases-members-loop-c
decreases-members-loop-c l = count (ahead l.c)
