use Rattle.drill_laws.proofs.Answered.{drill_taken}
use Rattle.drill_laws.proofs.drill_is_taken.Goals as goal

pub returns : goal.returns
returns c = drill_taken (record {
  inputs = c.inputs_are_one.ensures;
  maps = c.maps_are_one.ensures;
  schema = c.schema_is_document.ensures;
  graph = c.graph_is_document.ensures;
  one_item = c.map_is_of_item.ensures;
})
