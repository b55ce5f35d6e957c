use Rattle.std.proofs.Common.{rules}
use Rattle.std.proofs.lemmas.List.Sorted.{IsPartitionPoint-from_clause}
use Rattle.value_sets.specs.StemIndex.{is_upto}
use Rattle.value_sets.proofs.Apart.{upto_first}
use Rattle.value_sets.proofs.stem_index.count_upto.Goals as goal

pub returns : goal.returns
returns c = (
  c.partition_point.ensures.bound,
  IsPartitionPoint-from_clause (λ stem. is_upto stem c.args.text.now) _ _ c.partition_point.ensures.partitioned (upto_first c.args.stems.now c.args.text.now c.requires) (λ a r q k. search rules),
)
