use Rattle.std.proofs.Common.{arith, get_or, rules}
use Rattle.std.proofs.lemmas.List.Elements.{Contains-get_or}
use Rattle.schema_load.proofs.Grouped.{none_of_group}
use Rattle.schema_load.proofs.circles.has_group.Goals as goal

pub offset_bounds-groups-place : goal.offset_bounds-groups-place
offset_bounds-groups-place c = let low = c.requires.within (get_or c.args.places.now c.loop-place.place-index 0)
    (Contains-get_or c.args.places.now c.loop-place.place-index 0 c.loop-place-test.true) in search rules

pub bounds-groups-place : goal.bounds-groups-place
bounds-groups-place c = c.requires.within (get_or c.args.places.now c.loop-place.place-index 0) (Contains-get_or c.args.places.now c.loop-place.place-index 0 c.loop-place-test.true)

pub returns : goal.returns
returns c = none_of_group c.args.groups.now c.args.places.now c.loop-place.place-index c.args.group (let h = c.loop-place-test.false in omega arith) c.loop-place.invariant
