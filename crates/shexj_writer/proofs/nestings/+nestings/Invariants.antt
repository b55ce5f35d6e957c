use Rattle.std.proofs.Common.{◌≡◌, drop, map, nat_le}
use Rattle.schema_documents.specs.Tree.{expr_of, exprs, triple_of, triples}
use Rattle.shexj_reader.specs.Nesting.{exprs_nesting, triples_nesting}
use Rattle.shexj_writer.proofs.nestings.+nestings.Given as goal

abbrev pub invariant-exprs_nest_within-loop-member : goal.invariant-exprs_nest_within-loop-member
invariant-exprs_nest_within-loop-member l =
    nat_le (exprs_nesting (exprs (map expr_of l.members))) l.levels ≡ nat_le (exprs_nesting (exprs (map expr_of (drop l.member-index l.members)))) l.levels

abbrev pub invariant-triples_nest_within-loop-member : goal.invariant-triples_nest_within-loop-member
invariant-triples_nest_within-loop-member l =
    nat_le (triples_nesting (triples (map triple_of l.members))) l.levels ≡ nat_le (triples_nesting (triples (map triple_of (drop l.member-index l.members)))) l.levels
