use Rattle.std.proofs.Common.{◌≡◌, ◌∙◌, ap, arith, get_or, length, refl}
use Rattle.std.proofs.lemmas.Option.{slice_get_read}
use Rattle.schema_load.specs.Building.{number_at}
use Rattle.schema_load.specs.Parts.{IsAt}
use Rattle.schema_load.proofs.Deeper.{item_at}
use Rattle.schema_load.proofs.Numbering.{referred_all, referred_more, target_inside}
use Rattle.schema_load.proofs.numbers.number_references.Goals as goal

pub number_at-number-requires-clause-target : goal.number_at-number-requires-clause-target
number_at-number-requires-clause-target c =
    let here = item_at c.args.order.now c.loop-done.done (get_or c.args.order.now c.loop-done.done 0) (let h = c.loop-done-test.true in omega arith) refl in
    let low = c.requires.sorted.within c.loop-done.done (get_or c.args.order.now c.loop-done.done 0) here in
    let at : IsAt c.args.parts.now (get_or c.args.order.now c.loop-done.done 0) c.index-parts-place.result =
    slice_get_read c.args.parts.now _ (get_or c.args.order.now c.loop-done.done 0) c.index-parts-place.result refl low c.index-parts-place.is in
    let size : length c.as_slice.result.now ≡ length c.args.parts.now = ap length c.as_slice.ensures.value ∙ c.loop-done.invariant.size in
    target_inside c.args.parts.now c.args.targets.now c.args.order.now c.args.numbers.now.items c.requires.targets c.requires.whole c.requires.sorted c.loop-done.done (get_or c.args.order.now c.loop-done.done 0) c.index-parts-place.result c.as_slice.result.now size here at

pub index_mut-requires : goal.index_mut-requires
index_mut-requires c =
    let here = item_at c.args.order.now c.loop-done.done (get_or c.args.order.now c.loop-done.done 0) (let h = c.loop-done-test.true in omega arith) refl in
    let low = c.requires.sorted.within c.loop-done.done (get_or c.args.order.now c.loop-done.done 0) here in
    let size = c.loop-done.invariant.size in
    omega arith

pub loop-done-preserved : goal.loop-done-preserved
loop-done-preserved c =
    let here = item_at c.args.order.now c.loop-done.done (get_or c.args.order.now c.loop-done.done 0) (let h = c.loop-done-test.true in omega arith) refl in
    let low = c.requires.sorted.within c.loop-done.done (get_or c.args.order.now c.loop-done.done 0) here in
    let at : IsAt c.args.parts.now (get_or c.args.order.now c.loop-done.done 0) c.index-parts-place.result =
    slice_get_read c.args.parts.now _ (get_or c.args.order.now c.loop-done.done 0) c.index-parts-place.result refl low c.index-parts-place.is in
    let value = c.number_at-number.ensures
    ∙ ap (λ ns. number_at c.index-parts-place.result ns (get_or c.args.order.now c.loop-done.done 0) (get_or c.args.targets.now (get_or c.args.order.now c.loop-done.done 0) 0)) c.as_slice.ensures.value in
    referred_more c.args.parts.now c.args.targets.now c.args.order.now c.args.numbers.now.items c.requires.targets c.requires.whole c.requires.sorted c.loop-done.numbers.items c.loop-done.done (get_or c.args.order.now c.loop-done.done 0) c.number_at-number.result here c.loop-done.invariant c.index-parts-place.result at value

pub returns-clause-referred : goal.returns-clause-referred
returns-clause-referred c =
    referred_all c.args.parts.now c.args.targets.now c.args.order.now c.args.numbers.now.items c.requires.targets c.requires.whole c.requires.sorted c.loop-done.numbers.items c.loop-done.done c.requires.all (let h = c.loop-done-test.false in omega arith) c.loop-done.invariant
