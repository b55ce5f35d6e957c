use Rattle.std.proofs.Common.{◌+◌, ◌*◌, ◌≤◌, take, map}
use Rattle.serde_json.specs.View.{items_view}
use Rattle.schema_documents.specs.Tree.{expr_of, exprs, triple_of, triples}
use Rattle.shexj_reader.specs.Expressions.{SpellsExprs, SpellsTripleExprs}
use Rattle.shexj_reader.specs.Nesting.{exprs_nesting, triples_nesting}
use Rattle.shexj_reader.proofs.expressions.+expressions.Given as goal

abbrev pub decreases-read_expr : goal.decreases-read_expr
decreases-read_expr l = 4 * l.depth + 1

abbrev pub decreases-read_expr_object : goal.decreases-read_expr_object
decreases-read_expr_object l = 4 * l.depth

abbrev pub decreases-read_join : goal.decreases-read_join
decreases-read_join l = 4 * l.depth + 2

abbrev pub decreases-read_not : goal.decreases-read_not
decreases-read_not l = 4 * l.depth + 2

abbrev pub decreases-read_shape : goal.decreases-read_shape
decreases-read_shape l = 4 * l.depth + 2

abbrev pub decreases-read_triple : goal.decreases-read_triple
decreases-read_triple l = 4 * l.depth + 1

abbrev pub decreases-read_triple_object : goal.decreases-read_triple_object
decreases-read_triple_object l = 4 * l.depth

abbrev pub decreases-read_group : goal.decreases-read_group
decreases-read_group l = 4 * l.depth + 3

abbrev pub decreases-read_triples : goal.decreases-read_triples
decreases-read_triples l = 4 * l.depth + 2

abbrev pub decreases-read_arc : goal.decreases-read_arc
decreases-read_arc l = 4 * l.depth + 2

abbrev pub invariant-read_join-loop-item : goal.invariant-read_join-loop-item
invariant-read_join-loop-item l = record {
  spelled : SpellsExprs (exprs (map expr_of l.all.items)) (items_view (take l.item-index l.items));
  within : exprs_nesting (exprs (map expr_of l.all.items)) ≤ l.depth;
}

abbrev pub invariant-read_triples-loop-item : goal.invariant-read_triples-loop-item
invariant-read_triples-loop-item l = record {
  spelled : SpellsTripleExprs (triples (map triple_of l.all.items)) (items_view (take l.item-index l.items));
  within : triples_nesting (triples (map triple_of l.all.items)) ≤ l.depth;
}
