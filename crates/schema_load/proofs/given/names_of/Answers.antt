use Rattle.std.proofs.Common.{◌<◌, arith, length, refl}
use Rattle.std.proofs.lemmas.Option.{slice_get_read}
use Rattle.indexmap.specs.IndexMap.{get}
use Rattle.schema_load.specs.Given.{declared_label, named_label, same_label}
use Rattle.schema_load.specs.Parts.{IsAt}
use Rattle.schema_load.proofs.Placed.{last_next}
use Rattle.schema_load.proofs.given.names_of.Goals as goal

pub loop-place-preserved : goal.loop-place-preserved
loop-place-preserved c =
    let lt : c.loop-place.place < length c.args.parts.now = (let h = c.loop-place-test.true in omega arith) in
    let at : IsAt c.args.parts.now c.loop-place.place c.index-parts-place.result = slice_get_read c.args.parts.now _ c.loop-place.place c.index-parts-place.result refl lt c.index-parts-place.is in
    let again : IsAt c.args.parts.now c.loop-place.place c.index-parts-place-in-loop-place.result =
    slice_get_read c.args.parts.now _ c.loop-place.place c.index-parts-place-in-loop-place.result refl lt c.index-parts-place-in-loop-place.is in (
      last_next declared_label c.args.parts.now c.loop-place.place c.index-parts-place.result (get same_label c.loop-place.declared)
          (get same_label c.note_declared.new.last) at c.loop-place.invariant.0 c.in_ok-note_declared.ensures,
      last_next named_label c.args.parts.now c.loop-place.place c.index-parts-place-in-loop-place.result (get same_label c.loop-place.named)
          (get same_label c.note_named.new.last) again c.loop-place.invariant.1 c.in_ok-note_named.ensures,
    )
