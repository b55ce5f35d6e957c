use Rattle.std.proofs.Common.{◌<◌, arith, length, refl}
use Rattle.std.proofs.lemmas.Option.{slice_get_read}
use Rattle.schema_load.specs.Parts.{IsAt}
use Rattle.schema_load.proofs.Placed.{first_twice, no_twice, not_again}
use Rattle.schema_load.proofs.names.find_twice.Goals as goal

pub returns-then-is_given_again-clause-found : goal.returns-then-is_given_again-clause-found
returns-then-is_given_again-clause-found c =
    let lt : c.loop-place.place < length c.args.parts.now = (let h = c.loop-place-test.true in omega arith) in
    let at : IsAt c.args.parts.now c.loop-place.place c.index-parts-place.result = slice_get_read c.args.parts.now _ c.loop-place.place c.index-parts-place.result refl lt c.index-parts-place.is in
    first_twice c.args.parts.now c.args.names.now c.requires c.loop-place.place c.index-parts-place.result at (c.is_given_again.ensures.0 c.if-is_given_again.true) c.loop-place.invariant

pub loop-place-preserved : goal.loop-place-preserved
loop-place-preserved c =
    let lt : c.loop-place.place < length c.args.parts.now = (let h = c.loop-place-test.true in omega arith) in
    let at : IsAt c.args.parts.now c.loop-place.place c.index-parts-place.result = slice_get_read c.args.parts.now _ c.loop-place.place c.index-parts-place.result refl lt c.index-parts-place.is in
    not_again c.args.parts.now c.args.names.now c.requires c.loop-place.place c.index-parts-place.result c.is_given_again.result at c.is_given_again.ensures c.if-is_given_again.false c.loop-place.invariant

pub returns-clause-none : goal.returns-clause-none
returns-clause-none c = λ e. no_twice c.args.parts.now c.args.names.now c.requires c.loop-place.place (let h = c.loop-place-test.false in omega arith) c.loop-place.invariant
