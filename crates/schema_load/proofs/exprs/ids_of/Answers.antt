use Rattle.std.proofs.Common.{rules}
use Rattle.std.proofs.lemmas.List.Elements.{Contains-get_or}
use Rattle.schema_load.proofs.exprs.ids_of.Goals as goal

pub bounds-numbers-place : goal.bounds-numbers-place
bounds-numbers-place c = c.requires _ (Contains-get_or c.args.places.now c.loop-place.place-index 0 c.loop-place-test.true)

pub offset_bounds-numbers-place : goal.offset_bounds-numbers-place
offset_bounds-numbers-place c = let lt = c.requires _ (Contains-get_or c.args.places.now c.loop-place.place-index 0 c.loop-place-test.true) in search rules
