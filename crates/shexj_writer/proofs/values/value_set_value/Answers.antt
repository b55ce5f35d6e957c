use Rattle.std.proofs.Common.{◌∙◌, ap, arith}
use Rattle.serde_json.specs.Data.{array}
use Rattle.shexj_writer.specs.Values.{value_data}
use Rattle.shexj_writer.proofs.Lists.{all_written, values_are}
use Rattle.shexj_writer.proofs.values.value_set_value.Goals as goal

pub returns-clause-value : goal.returns-clause-value
returns-clause-value c =
    c.from.ensures ∙ ap array (all_written value_data c.args.values.now c.loop-item.all.items c.loop-item.item-index (omega arith) c.loop-item.invariant.0 ∙ values_are c.args.values.now)
