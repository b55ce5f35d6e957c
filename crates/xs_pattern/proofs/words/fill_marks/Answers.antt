use Rattle.std.proofs.Common.{rules}
use Rattle.xs_pattern.proofs.Bitwise.{filled}
use Rattle.xs_pattern.proofs.words.fill_marks.Goals as goal

pub loop-i-preserved : goal.loop-i-preserved
loop-i-preserved c =
    filled c.loop-i.i c.args.word c.loop-i.marks.items c.push.new.self.items _ c.loop-i.invariant (search rules) c.in_ok-push.ensures.items
