use Rattle.std.proofs.Common.{arith, false}
use Rattle.std.specs.Prelude.{None}
use Rattle.demand.proofs.Taken.{held_item}
use Rattle.typing_session.proofs.uses.filed.Goals as goal

pub file_use-requires : goal.file_use-requires
file_use-requires c =
    let within = c.requires.within _ (held_item c.args.found.now c.loop-one.one-index
    (record { value = record { 0 = 0 }; shape = record { 0 = 0 }; occ = record { inverse = false; predicate = record { 0 = 0 }; value = None } }) c.loop-one-test.true) in
    let count = c.loop-one.invariant.count in
    record { there = omega (arith, within, count) }
