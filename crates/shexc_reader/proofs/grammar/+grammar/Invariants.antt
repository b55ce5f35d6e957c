use Rattle.std.proofs.Common.{true, false, ◌≡◌, ◌+◌, ◌*◌, map}
use Rattle.rdf_cursor.specs.Ahead.{count}
use Rattle.rdf_cursor.specs.Readers.{loop}
use Rattle.rdf_cursor.specs.Symbols.{is_symbol}
use Rattle.rdf_cursor.specs.Cursors.{ahead, source_in}
use Rattle.term_tokens.specs.Scopes.{scope_in}
use Rattle.shexc_reader.specs.Reading.{and_behind, or_behind, semicolon, bar, level}
use Rattle.schema_documents.specs.Tree.{expr_of, triple_of}
use Rattle.rdf_cursor.specs.declared.symbols.Symbol.TheVariants.{And, Or, Semicolon, Bar}
use Rattle.shexc_reader.proofs.grammar.+grammar.Given as goal

abbrev pub invariant-ands-loop-c : goal.invariant-ands-loop-c
invariant-ands-loop-c l =
    (loop (is_symbol And) (and_behind true (scope_in l.names) l.depth (level true (scope_in l.names) l.depth) l.whole) (map expr_of l.xs.items, l.flag) (ahead l.c)
    ≡ loop (is_symbol And) (and_behind true (scope_in l.names) l.depth (level true (scope_in l.names) l.depth) l.whole) (map expr_of l.fn.xs.items, l.counted)
    (ahead l.fn.c)) × (source_in l.c ≡ source_in l.fn.c)

abbrev pub decreases-ands-loop-c : goal.decreases-ands-loop-c
decreases-ands-loop-c l = count (ahead l.c)

abbrev pub invariant-ors-loop-c : goal.invariant-ors-loop-c
invariant-ors-loop-c l =
    (loop (is_symbol Or) (or_behind true (scope_in l.names) l.depth (level true (scope_in l.names) l.depth) l.whole) (map expr_of l.xs.items, l.flag) (ahead l.c)
    ≡ loop (is_symbol Or) (or_behind true (scope_in l.names) l.depth (level true (scope_in l.names) l.depth) l.whole) (map expr_of l.fn.xs.items, l.counted)
    (ahead l.fn.c)) × (source_in l.c ≡ source_in l.fn.c)

abbrev pub decreases-ors-loop-c : goal.decreases-ors-loop-c
decreases-ors-loop-c l = count (ahead l.c)

abbrev pub decreases-inside_expression : goal.decreases-inside_expression
decreases-inside_expression l = l.depth * 64 + 0

abbrev pub decreases-inside_triple : goal.decreases-inside_triple
decreases-inside_triple l = l.depth * 64 + 0

abbrev pub decreases-maybe_triple : goal.decreases-maybe_triple
decreases-maybe_triple l = l.depth * 64 + 1

abbrev pub decreases-shape_behind : goal.decreases-shape_behind
decreases-shape_behind l = l.depth * 64 + 2

abbrev pub decreases-a_shape : goal.decreases-a_shape
decreases-a_shape l = l.depth * 64 + 3

abbrev pub decreases-shape_or_reference : goal.decreases-shape_or_reference
decreases-shape_or_reference l = l.depth * 64 + 4

abbrev pub decreases-joined_with : goal.decreases-joined_with
decreases-joined_with l = l.depth * 64 + 5

abbrev pub decreases-braced : goal.decreases-braced
decreases-braced l = l.depth * 64 + 6

abbrev pub decreases-behind_constraint : goal.decreases-behind_constraint
decreases-behind_constraint l = l.depth * 64 + 7

abbrev pub decreases-constraint_first : goal.decreases-constraint_first
decreases-constraint_first l = l.depth * 64 + 8

abbrev pub decreases-shape_first : goal.decreases-shape_first
decreases-shape_first l = l.depth * 64 + 9

abbrev pub decreases-parenthesised : goal.decreases-parenthesised
decreases-parenthesised l = l.depth * 64 + 10

abbrev pub decreases-atom : goal.decreases-atom
decreases-atom l = l.depth * 64 + 11

abbrev pub decreases-negated : goal.decreases-negated
decreases-negated l = l.depth * 64 + 12

abbrev pub decreases-and_behind : goal.decreases-and_behind
decreases-and_behind l = l.depth * 64 + 13

abbrev pub decreases-ands : goal.decreases-ands
decreases-ands l = l.depth * 64 + 14

abbrev pub decreases-conjunction_from : goal.decreases-conjunction_from
decreases-conjunction_from l = l.depth * 64 + 15

abbrev pub decreases-conjunction : goal.decreases-conjunction
decreases-conjunction l = l.depth * 64 + 16

abbrev pub decreases-or_behind : goal.decreases-or_behind
decreases-or_behind l = l.depth * 64 + 17

abbrev pub decreases-ors : goal.decreases-ors
decreases-ors l = l.depth * 64 + 18

abbrev pub decreases-disjunction_from : goal.decreases-disjunction_from
decreases-disjunction_from l = l.depth * 64 + 19

abbrev pub decreases-expression : goal.decreases-expression
decreases-expression l = l.depth * 64 + 20

abbrev pub decreases-further : goal.decreases-further
decreases-further l = l.depth * 64 + 21

abbrev pub decreases-dot_value : goal.decreases-dot_value
decreases-dot_value l = l.depth * 64 + 22

abbrev pub decreases-arc_value : goal.decreases-arc_value
decreases-arc_value l = l.depth * 64 + 23

abbrev pub decreases-an_arc : goal.decreases-an_arc
decreases-an_arc l = l.depth * 64 + 24

abbrev pub decreases-grouped : goal.decreases-grouped
decreases-grouped l = l.depth * 64 + 25

abbrev pub decreases-unlabelled : goal.decreases-unlabelled
decreases-unlabelled l = l.depth * 64 + 26

abbrev pub decreases-unary : goal.decreases-unary
decreases-unary l = l.depth * 64 + 27

abbrev pub decreases-semicolon : goal.decreases-semicolon
decreases-semicolon l = l.depth * 64 + 28

abbrev pub decreases-semicolons : goal.decreases-semicolons
decreases-semicolons l = l.depth * 64 + 29

abbrev pub decreases-group : goal.decreases-group
decreases-group l = l.depth * 64 + 30

abbrev pub decreases-bar : goal.decreases-bar
decreases-bar l = l.depth * 64 + 31

abbrev pub decreases-bars : goal.decreases-bars
decreases-bars l = l.depth * 64 + 32

abbrev pub decreases-alternatives : goal.decreases-alternatives
decreases-alternatives l = l.depth * 64 + 33

abbrev pub invariant-semicolons-loop-c : goal.invariant-semicolons-loop-c
invariant-semicolons-loop-c l =
    (loop (is_symbol Semicolon) (semicolon true (scope_in l.names) l.depth (level true (scope_in l.names) l.depth)) (map triple_of l.xs.items, l.ended) (ahead l.c)
    ≡ loop (is_symbol Semicolon) (semicolon true (scope_in l.names) l.depth (level true (scope_in l.names) l.depth)) (map triple_of l.fn.xs.items, false)
    (ahead l.fn.c)) × (source_in l.c ≡ source_in l.fn.c)

abbrev pub decreases-semicolons-loop-c : goal.decreases-semicolons-loop-c
decreases-semicolons-loop-c l = count (ahead l.c)

abbrev pub invariant-bars-loop-c : goal.invariant-bars-loop-c
invariant-bars-loop-c l =
    (loop (is_symbol Bar) (bar true (scope_in l.names) l.depth (level true (scope_in l.names) l.depth)) (map triple_of l.xs.items) (ahead l.c)
    ≡ loop (is_symbol Bar) (bar true (scope_in l.names) l.depth (level true (scope_in l.names) l.depth)) (map triple_of l.fn.xs.items) (ahead l.fn.c)) × (source_in l.c ≡ source_in l.fn.c)

abbrev pub decreases-bars-loop-c : goal.decreases-bars-loop-c
decreases-bars-loop-c l = count (ahead l.c)
