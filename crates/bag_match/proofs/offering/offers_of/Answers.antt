use Rattle.std.proofs.Common.{◌<◌, [], arith, length, sym}
use Rattle.std.proofs.lemmas.Option.{get_or_from_slice_get}
use Rattle.bag_match.proofs.Offers.{each_next, each_small, each_there}
use Rattle.bag_match.proofs.offering.offers_of.Goals as goal

pub add_all-requires-clause-there : goal.add_all-requires-clause-there
add_all-requires-clause-there c =
    let within : c.loop-i.i < length c.args.lists.now = (let l = c.loop-i-test.true in let e = c.len-i-end.ensures in omega (arith, l, e)) in
    each_there c.args.occurrences c.args.lists.now c.requires.there c.loop-i.i [] c.at.result.now within
    (sym (get_or_from_slice_get c.args.lists.now c.loop-i.i c.at.result.now [] c.at.ensures)) c.loop-i.counts.items c.loop-i.invariant

pub add_all-requires-clause-small : goal.add_all-requires-clause-small
add_all-requires-clause-small c =
    let within : c.loop-i.i < length c.args.lists.now = (let l = c.loop-i-test.true in let e = c.len-i-end.ensures in omega (arith, l, e)) in
    each_small c.args.occurrences c.args.lists.now c.requires.there c.loop-i.i [] c.at.result.now within
    (sym (get_or_from_slice_get c.args.lists.now c.loop-i.i c.at.result.now [] c.at.ensures)) c.loop-i.counts.items c.loop-i.invariant c.requires.small

pub loop-i-preserved : goal.loop-i-preserved
loop-i-preserved c =
    let within : c.loop-i.i < length c.args.lists.now = (let l = c.loop-i-test.true in let e = c.len-i-end.ensures in omega (arith, l, e)) in
    each_next c.args.occurrences c.args.lists.now c.requires.there c.loop-i.i [] c.at.result.now within
    (sym (get_or_from_slice_get c.args.lists.now c.loop-i.i c.at.result.now [] c.at.ensures)) c.loop-i.counts.items c.loop-i.invariant
    c.add_all.new.counts.items c.add_all.ensures.len c.add_all.ensures.added
