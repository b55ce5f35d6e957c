use Rattle.std.proofs.Common.{get_or, nat_eq, refl, rules}
use Rattle.std.proofs.lemmas.List.Sorted.{IsPartitionPoint-from_clause}
use Rattle.rdf_terms.specs.declared.terms.Triple.{Triple}
use Rattle.graph_index.proofs.Stepped.{divided, is_block}
use Rattle.graph_index.proofs.node_rows.first_block.Goals as goal

blank : Triple
blank = record { s = record { 0 = 0 }; p = record { 0 = 0 }; o = record { 0 = 0 } }

pub returns : goal.returns
unfolding blank
returns c =
    is_block c.args.rows.now (get_or c.args.rows.now 0 blank).p.0 blank refl c.requires.some c.partition_point.result c.partition_point.ensures.bound
    (IsPartitionPoint-from_clause (λ t. nat_eq t.p.0 (get_or c.args.rows.now 0 blank).p.0) _ _ c.partition_point.ensures.partitioned
    (divided c.args.rows.now (get_or c.args.rows.now 0 blank).p.0 blank refl c.requires.some c.requires.grouped) (λ a r q k. search rules))
