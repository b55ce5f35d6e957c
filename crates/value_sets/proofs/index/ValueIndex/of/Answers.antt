use Rattle.std.proofs.Common.{refl}
use Rattle.value_sets.proofs.Indexing.{indexed}
use Rattle.value_sets.proofs.index.ValueIndex.of.Goals as goal

pub returns : goal.returns
returns c = indexed c.args.values.now c.in_ok-kinds.kinds _ c.in_ok-kinds.ensures refl c.in_ok-iri_stems.ensures c.in_ok-lit_stems.ensures refl
