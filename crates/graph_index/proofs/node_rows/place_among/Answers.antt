use Rattle.std.proofs.Common.{List, rules, subst, sym}
use Rattle.std.proofs.lemmas.List.Sorted.{IsPartitionPoint-from_clause}
use Rattle.std.specs.List.Sorted.{IsPartitionedBy}
use Rattle.std.specs.Ordering.{is_lt}
use Rattle.rdf_terms.specs.declared.terms.Triple.{Triple}
use Rattle.graph_index.specs.Rows.{by_texts}
use Rattle.graph_index.proofs.Inserted.{divided}
use Rattle.graph_index.proofs.Permuted.{texts_total}
use Rattle.graph_index.proofs.node_rows.place_among.Goals as goal

pub returns-clause-point : goal.returns-clause-point
returns-clause-point c =
    IsPartitionPoint-from_clause (λ y. is_lt (by_texts c.args.end c.args.terms.now y c.args.t.now)) _ _ c.partition_point.ensures.partitioned
    (subst (λ (v : List Triple). IsPartitionedBy (λ y. is_lt (by_texts c.args.end c.args.terms.now y c.args.t.now)) v) (sym c.requires.1)
    (divided (by_texts c.args.end c.args.terms.now) (texts_total c.args.end c.args.terms.now) c.args.t.now c.requires.0))
    (λ a r q k. search rules)
