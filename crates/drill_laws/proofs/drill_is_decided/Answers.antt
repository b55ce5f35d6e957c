use Rattle.drill_laws.proofs.Answered.{drill_decided}
use Rattle.drill_laws.proofs.drill_is_decided.Goals as goal

pub returns : goal.returns
returns c = drill_decided (record {
  inputs = c.inputs_are_one.ensures;
  maps = c.maps_are_one.ensures;
  schema = c.schema_is_document.ensures;
  graph = c.graph_is_document.ensures;
  one_item = c.map_is_of_item.ensures;
}) c.width_is_one.ensures.plain c.width_is_one.ensures.one
