use Rattle.shex_inputs.proofs.Exclusive.{inputs_one}
use Rattle.shex_inputs.proofs.laws.inputs_are_one.Goals as goal

pub returns : goal.returns
returns c = inputs_one (record {
  sources = c.sources_are_one.ensures;
  not_left = c.read_is_not_left.ensures;
  one_left = c.refused_is_one.ensures;
  data_one = c.data_are_one.ensures;
  maps_one = c.maps_are_one.ensures;
  one = c.documents_stand_for_one.ensures.one;
  loaded = c.taken_is_loaded.ensures;
  stratified = c.strata_are_least.ensures.stratified;
  no_cycle = c.strata_are_least.ensures.no_cycle;
  cycles = c.strata_are_least.ensures.cycles;
})
