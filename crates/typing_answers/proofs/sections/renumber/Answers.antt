use Rattle.std.proofs.Common.{◌<◌, ap, arith, length}
use Rattle.typing_answers.specs.Numbering.{moved}
use Rattle.typing_answers.proofs.InPlace.{next_held, one_more_replaced}
use Rattle.typing_answers.proofs.sections.renumber.Goals as goal

pub loop-record-preserved : goal.loop-record-preserved
loop-record-preserved c =
    let records = c.args.records.now.items in
    let here = c.loop-record-test.true in
    let within : c.loop-record.record-index < length records = omega (arith, here, ap length c.deref_mut-record-items.ensures.value) in
    one_more_replaced (moved c.args.places.now) records c.loop-record.record-items c.loop-record.record-index c.record-item.result
    within c.loop-record.invariant

pub bounds-places-record : goal.bounds-places-record
bounds-places-record c =
    let records = c.args.records.now.items in
    let here = c.loop-record-test.true in
    let within : c.loop-record.record-index < length records = omega (arith, here, ap length c.deref_mut-record-items.ensures.value) in
    c.requires _ (next_held (moved c.args.places.now) records c.loop-record.record-items c.loop-record.record-index c.record-item.result
    within c.loop-record.invariant)
