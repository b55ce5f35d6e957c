use Rattle.shex_inputs.proofs.Exclusive.{schemas_not_left}
use Rattle.shex_inputs.proofs.laws.schemas_are_not_left.Goals as goal

pub returns : goal.returns
returns c = schemas_not_left (record {
  sources = c.sources_are_one.ensures;
  not_left = c.read_is_not_left.ensures;
  one_left = c.refused_is_one.ensures;
  data_one = c.data_are_one.ensures;
  maps_one = c.maps_are_one.ensures;
  one = c.documents_stand_for_one.ensures.one;
  loaded = c.taken_is_loaded.ensures;
  stratified = c.strata_are_least.ensures.stratified;
  no_cycle = c.strata_are_least.ensures.no_cycle;
  cycles = c.strata_are_least.ensures.cycles;
})
