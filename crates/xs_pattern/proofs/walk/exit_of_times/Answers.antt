use Rattle.std.proofs.Common.{◌≤◌, arith, refl}
use Rattle.xs_pattern.proofs.TimesWay.{exit_is}
use Rattle.xs_pattern.proofs.walk.exit_of_times.Goals as goal

pub returns : goal.returns
returns c = λ edge set.
    let some : 1 ≤ c.args.count = (let e = c.if-count-eq0.false in omega (arith, e)) in
    let p = exit_is c.args.marks.now c.args.from c.args.count edge set some in
    rw (p.0, p.1) refl
