use Rattle.schema_load.proofs.Counted.{one_entry_each}
use Rattle.schema_load.proofs.OneSchemaLaw.{one_schema}
use Rattle.schema_load.proofs.Whole.{are_whole}
use Rattle.schema_load.proofs.laws.documents_stand_for_one.Goals as goal

pub returns : goal.returns
returns c = record {
  one = λ docs terms a b distinct x y. one_schema docs terms a b distinct (are_whole docs) x y;
  entries = λ docs terms s x. one_entry_each docs terms s x;
}
