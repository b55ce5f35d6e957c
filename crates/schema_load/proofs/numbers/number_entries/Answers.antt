use Rattle.std.proofs.Common.{◌≡◌, ℕ, arith, get_or, refl, replicate, rules}
use Rattle.schema_load.proofs.Deeper.{item_at}
use Rattle.schema_load.proofs.Numbering.{numbered_all, numbered_more, numbered_none}
use Rattle.schema_load.proofs.numbers.number_entries.Goals as goal

pub loop-number-init : goal.loop-number-init
loop-number-init c =
    let e : c.in_ok-numbers.numbers.items ≡ replicate c.args.count (let z : ℕ = 0 in z) = search rules in
    numbered_none c.args.entries.now c.args.count c.in_ok-numbers.numbers.items e

pub index_mut-requires : goal.index_mut-requires
index_mut-requires c =
    let here = item_at c.args.entries.now c.loop-number.number (get_or c.args.entries.now c.loop-number.number 0) (let h = c.loop-number-test.true in omega arith) refl in
    let low = c.requires.within c.loop-number.number (get_or c.args.entries.now c.loop-number.number 0) here in
    let size = c.loop-number.invariant.size in
    search rules

pub loop-number-preserved : goal.loop-number-preserved
loop-number-preserved c =
    let here = item_at c.args.entries.now c.loop-number.number (get_or c.args.entries.now c.loop-number.number 0) (let h = c.loop-number-test.true in omega arith) refl in
    let low = c.requires.within c.loop-number.number (get_or c.args.entries.now c.loop-number.number 0) here in
    numbered_more c.args.entries.now c.args.count c.loop-number.numbers.items c.loop-number.number (get_or c.args.entries.now c.loop-number.number 0) c.loop-number.number c.requires.distinct here low refl c.loop-number.invariant

pub returns-clause-numbers : goal.returns-clause-numbers
returns-clause-numbers c = numbered_all c.args.entries.now c.args.count c.loop-number.numbers.items c.loop-number.number (let h = c.loop-number-test.false in omega arith) c.loop-number.invariant
