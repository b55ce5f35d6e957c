use Rattle.std.proofs.Common.{ltb, leb, rules}
use Rattle.std.proofs.lemmas.List.Sorted.{IsPartitionPoint-from_clause, IsPartitionedBy-leb, IsPartitionedBy-ltb, IsNonDecreasingBy-drop, IsNonDecreasingBy-take}
use Rattle.rdf_terms.specs.declared.terms.Triple.{Triple}
use Rattle.graph_index.specs.Places.{place_of}
use Rattle.graph_index.proofs.Blocks.{rows_of_number, rest_is}
use Rattle.graph_index.proofs.rows.of_place.Goals as goal

pub returns : goal.returns
returns c =
    let below = IsPartitionPoint-from_clause (λ t. ltb (place_of c.args.places.now t.p) c.args.place) _ _ c.partition_point-first.ensures.partitioned (IsPartitionedBy-ltb (λ (t : Triple). place_of c.args.places.now t.p) _ c.args.place c.requires) (λ a r q k. search rules) in
    let upto = IsPartitionPoint-from_clause (λ t. leb (place_of c.args.places.now t.p) c.args.place) _ _ c.partition_point-count.ensures.partitioned
    (IsPartitionedBy-leb (λ (t : Triple). place_of c.args.places.now t.p) _ c.args.place (IsNonDecreasingBy-take (λ (t : Triple). place_of c.args.places.now t.p) _ _ (IsNonDecreasingBy-drop (λ (t : Triple). place_of c.args.places.now t.p) _ _ c.requires))) (λ a r q k. search rules) in
    rows_of_number (λ (t : Triple). place_of c.args.places.now t.p) c.args.place c.args.rows.now c.partition_point-first.result c.partition_point-count.result _ (rest_is c.args.rows.now c.partition_point-first.result) below c.partition_point-count.ensures.bound upto
