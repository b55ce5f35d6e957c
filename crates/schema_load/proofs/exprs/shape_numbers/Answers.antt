use Rattle.std.proofs.Common.{◌<◌, arith, length, refl}
use Rattle.std.proofs.lemmas.Option.{slice_get_read}
use Rattle.schema_load.specs.Parts.{IsAt}
use Rattle.schema_load.proofs.Entered.{counted_all, counted_more, counted_none, shapes_next}
use Rattle.schema_load.proofs.exprs.shape_numbers.Goals as goal

pub loop-place-init : goal.loop-place-init
loop-place-init c = (counted_none c.args.parts.now c.new-numbers.result.items c.new-numbers.ensures.items, refl)

pub overflow_add-before : goal.overflow_add-before
overflow_add-before c =
    let lt : c.loop-place.place < length c.args.parts.now = (let h = c.loop-place-test.true in omega arith) in
    let at : IsAt c.args.parts.now c.loop-place.place c.index-parts-place.result = slice_get_read c.args.parts.now _ c.loop-place.place c.index-parts-place.result refl lt c.index-parts-place.is in
    let next = shapes_next c.args.parts.now c.loop-place.place c.loop-place.before c.shapes_in-before.result c.index-parts-place.result at c.loop-place.invariant.1 c.shapes_in-before.ensures c.requires in
    let low = next.1 in
    omega arith

pub loop-place-preserved : goal.loop-place-preserved
loop-place-preserved c =
    let lt : c.loop-place.place < length c.args.parts.now = (let h = c.loop-place-test.true in omega arith) in
    let at : IsAt c.args.parts.now c.loop-place.place c.index-parts-place.result = slice_get_read c.args.parts.now _ c.loop-place.place c.index-parts-place.result refl lt c.index-parts-place.is in
    let next = shapes_next c.args.parts.now c.loop-place.place c.loop-place.before c.shapes_in-before.result c.index-parts-place.result at c.loop-place.invariant.1 c.shapes_in-before.ensures c.requires in
    (counted_more c.args.parts.now c.loop-place.numbers.items c.push.new.self.items c.loop-place.place c.loop-place.before c.loop-place.invariant.0 c.loop-place.invariant.1 c.in_ok-push.ensures.items, next.0)

pub returns : goal.returns
returns c = counted_all c.args.parts.now c.loop-place.numbers.items c.loop-place.place (omega arith) (let h = c.loop-place-test.false in omega arith) c.loop-place.invariant.0
