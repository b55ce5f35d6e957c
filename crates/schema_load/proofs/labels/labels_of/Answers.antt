use Rattle.std.proofs.Common.{arith}
use Rattle.schema_load.specs.Building.{number_in}
use Rattle.schema_load.proofs.Labelled.{label_new, labels_more}
use Rattle.schema_load.proofs.labels.labels_of.Goals as goal

pub add_label-requires-clause-new : goal.add_label-requires-clause-new
add_label-requires-clause-new c = label_new c.args.parts.now (number_in c.args.numbers.now) c.loop-place.place c.loop-place.labels c.requires.once c.loop-place.invariant

pub loop-place-preserved : goal.loop-place-preserved
loop-place-preserved c =
    labels_more c.args.parts.now (number_in c.args.numbers.now) c.loop-place.place c.loop-place.labels c.add_label.new.labels (let h = c.loop-place-test.true in omega arith) c.loop-place.invariant c.in_ok-add_label.ensures
