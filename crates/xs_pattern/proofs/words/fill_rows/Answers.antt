use Rattle.std.proofs.Common.{arith}
use Rattle.xs_pattern.specs.Way.{way_of}
use Rattle.xs_pattern.proofs.Stepped.{rows_all}
use Rattle.xs_pattern.proofs.words.fill_rows.Goals as goal

pub returns : goal.returns
returns c =
    rows_all _ (way_of c.args.way.now) c.loop-position.rows.items c.loop-position.position
    (let count = c.requires.count in omega (arith, count)) c.loop-position.invariant.0 c.loop-position.invariant.1
