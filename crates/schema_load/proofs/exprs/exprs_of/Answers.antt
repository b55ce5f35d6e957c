use Rattle.std.proofs.Common.{◌≡◌, ◌∙◌, arith, get_or, refl, rules, sym, subst, length, vec_len}
use Rattle.std.specs.Prelude.{◌≤◌, filter}
use Rattle.std.proofs.lemmas.Option.{slice_get_within}
use Rattle.schema_load.specs.Parts.{IsAt, is_shape}
use Rattle.schema_load.specs.Building.{AreShapeNumbers, number_in}
use Rattle.schema_load.proofs.Deeper.{item_at}
use Rattle.schema_load.proofs.Entered.{entered_all, entered_more, entered_none, entry_at, names_inside, number_read, taken}
use Rattle.schema_load.proofs.exprs.exprs_of.Goals as goal

pub shape_numbers-requires : goal.shape_numbers-requires
shape_numbers-requires c = subst (λ ps. length (filter is_shape ps) ≤ 4096) (sym c.as_slice.ensures.value) c.requires.few

pub loop-place-init : goal.loop-place-init
loop-place-init c = entered_none c.args.parts.items (number_in c.args.numbers.now) c.args.entries.now c.args.parts.items c.new-exprs.result.items refl c.new-exprs.ensures.items

pub take_out-part-requires : goal.take_out-part-requires
take_out-part-requires c =
    let here = item_at c.args.entries.now c.loop-place.place-index (get_or c.args.entries.now c.loop-place.place-index 0) c.loop-place-test.true refl in
    let (x, at, is) = c.requires.entries c.loop-place.place-index (get_or c.args.entries.now c.loop-place.place-index 0) here in
    let lt = slice_get_within c.args.parts.items (get_or c.args.entries.now c.loop-place.place-index 0) x at in
    let size = c.loop-place.invariant.size in
    omega arith

pub entry_of-requires-clause-entry : goal.entry_of-requires-clause-entry
entry_of-requires-clause-entry c =
    let here = item_at c.args.entries.now c.loop-place.place-index (get_or c.args.entries.now c.loop-place.place-index 0) c.loop-place-test.true refl in
    entry_at c.args.parts.items c.args.entries.now c.loop-place.place-index (get_or c.args.entries.now c.loop-place.place-index 0) c.take_out-part.result c.requires.entries here
    (taken c.args.parts.items (number_in c.args.numbers.now) c.args.entries.now c.loop-place.parts.items c.loop-place.exprs.items c.loop-place.place-index (get_or c.args.entries.now c.loop-place.place-index 0) c.take_out-part.result c.loop-place.invariant here c.take_out-part.ensures.taken)

pub entry_of-requires-clause-inside : goal.entry_of-requires-clause-inside
entry_of-requires-clause-inside c =
    let here = item_at c.args.entries.now c.loop-place.place-index (get_or c.args.entries.now c.loop-place.place-index 0) c.loop-place-test.true refl in
    names_inside c.args.parts.items (get_or c.args.entries.now c.loop-place.place-index 0) (length c.args.numbers.now) c.take_out-part.result c.requires.whole c.requires.size
    (taken c.args.parts.items (number_in c.args.numbers.now) c.args.entries.now c.loop-place.parts.items c.loop-place.exprs.items c.loop-place.place-index (get_or c.args.entries.now c.loop-place.place-index 0) c.take_out-part.result c.loop-place.invariant here c.take_out-part.ensures.taken)

pub index-requires : goal.index-requires
index-requires c =
    let here = item_at c.args.entries.now c.loop-place.place-index (get_or c.args.entries.now c.loop-place.place-index 0) c.loop-place-test.true refl in
    let (x, at, is) = c.requires.entries c.loop-place.place-index (get_or c.args.entries.now c.loop-place.place-index 0) here in
    let lt = slice_get_within c.args.parts.items (get_or c.args.entries.now c.loop-place.place-index 0) x at in
    let counted = subst (λ ps. AreShapeNumbers ps c.in_ok-shapes.shapes.items) c.as_slice.ensures.value c.in_ok-shapes.ensures in
    let size = counted.size in
    let long : vec_len c.in_ok-shapes.shapes ≡ length c.in_ok-shapes.shapes.items = search rules in
    omega arith

pub loop-place-preserved : goal.loop-place-preserved
loop-place-preserved c =
    let here = item_at c.args.entries.now c.loop-place.place-index (get_or c.args.entries.now c.loop-place.place-index 0) c.loop-place-test.true refl in
    let at : IsAt c.args.parts.items (get_or c.args.entries.now c.loop-place.place-index 0) c.take_out-part.result =
    taken c.args.parts.items (number_in c.args.numbers.now) c.args.entries.now c.loop-place.parts.items c.loop-place.exprs.items c.loop-place.place-index (get_or c.args.entries.now c.loop-place.place-index 0) c.take_out-part.result c.loop-place.invariant here c.take_out-part.ensures.taken in
    let lt = slice_get_within c.args.parts.items (get_or c.args.entries.now c.loop-place.place-index 0) c.take_out-part.result at in
    let counted = subst (λ ps. AreShapeNumbers ps c.in_ok-shapes.shapes.items) c.as_slice.ensures.value c.in_ok-shapes.ensures in
    let read : c.index.result.now ≡ get_or c.in_ok-shapes.shapes.items (get_or c.args.entries.now c.loop-place.place-index 0) 0 =
    number_read c.in_ok-shapes.shapes.items (get_or c.args.entries.now c.loop-place.place-index 0) c.index.result.now (let n = counted.size in omega arith) c.index.ensures in
    entered_more c.args.parts.items (number_in c.args.numbers.now) c.args.entries.now c.requires.distinct c.loop-place.parts.items c.take_out-part.new.parts.items c.loop-place.exprs.items c.push.new.self.items c.loop-place.place-index (get_or c.args.entries.now c.loop-place.place-index 0) c.take_out-part.result c.in_ok-entry_of.field-0
    c.loop-place.invariant c.loop-place-test.true refl at c.take_out-part.ensures.size c.take_out-part.ensures.others
    (λ terms. c.in_ok-entry_of.ensures terms c.args.parts.items (get_or c.args.entries.now c.loop-place.place-index 0) (sym (read
    ∙ counted.each (get_or c.args.entries.now c.loop-place.place-index 0) lt))) c.in_ok-push.ensures.items

pub returns : goal.returns
returns c = λ terms. entered_all c.args.parts.items (number_in c.args.numbers.now) c.args.entries.now c.loop-place.parts.items c.loop-place.exprs.items c.loop-place.place-index (let h = c.loop-place-test.false in omega arith) c.loop-place.invariant terms
