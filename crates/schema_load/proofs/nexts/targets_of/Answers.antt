use Rattle.std.proofs.Common.{◌<◌, arith, length, refl}
use Rattle.std.proofs.lemmas.Option.{slice_get_read}
use Rattle.schema_load.specs.Parts.{IsAt}
use Rattle.schema_load.proofs.Leads.{misses_none, targets_all, targets_more, targets_none}
use Rattle.schema_load.proofs.nexts.targets_of.Goals as goal

pub loop-place-init : goal.loop-place-init
loop-place-init c = targets_none c.args.parts.now c.new-targets.result.items c.new-targets.ensures.items

pub target_of-requires-clause-there : goal.target_of-requires-clause-there
target_of-requires-clause-there c =
    let lt : c.loop-place.place < length c.args.parts.now = (let h = c.loop-place-test.true in omega arith) in
    let at : IsAt c.args.parts.now c.loop-place.place c.index-parts-place.result = slice_get_read c.args.parts.now _ c.loop-place.place c.index-parts-place.result refl lt c.index-parts-place.is in
    misses_none c.args.parts.now c.loop-place.place c.index-parts-place.result c.requires.there at

pub loop-place-preserved : goal.loop-place-preserved
loop-place-preserved c =
    let lt : c.loop-place.place < length c.args.parts.now = (let h = c.loop-place-test.true in omega arith) in
    let at : IsAt c.args.parts.now c.loop-place.place c.index-parts-place.result = slice_get_read c.args.parts.now _ c.loop-place.place c.index-parts-place.result refl lt c.index-parts-place.is in
    targets_more c.args.parts.now c.loop-place.targets.items c.push.new.self.items c.loop-place.place c.target_of.result c.index-parts-place.result at c.target_of.ensures c.in_ok-push.ensures.items c.loop-place.invariant

pub returns : goal.returns
returns c = targets_all c.args.parts.now c.loop-place.targets.items c.loop-place.place (omega arith) (let h = c.loop-place-test.false in omega arith) c.loop-place.invariant
