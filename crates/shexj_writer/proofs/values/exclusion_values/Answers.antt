use Rattle.std.proofs.Common.{◌∙◌, arith}
use Rattle.shexj_writer.specs.Values.{exclusion_data}
use Rattle.shexj_writer.proofs.Lists.{all_written, exclusions_are}
use Rattle.shexj_writer.proofs.values.exclusion_values.Goals as goal

pub returns-clause-values : goal.returns-clause-values
returns-clause-values c =
    all_written (exclusion_data c.args.kind) c.args.exclusions.now c.loop-exclusion.all.items c.loop-exclusion.exclusion-index (omega arith) c.loop-exclusion.invariant.0
    ∙ exclusions_are c.args.kind c.args.exclusions.now
