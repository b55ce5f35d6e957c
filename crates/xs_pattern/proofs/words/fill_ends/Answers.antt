use Rattle.std.proofs.Common.{◌∙◌, arith, ap, length}
use Rattle.xs_pattern.specs.Way.{way_of}
use Rattle.xs_pattern.proofs.Bitwise.{length_marks}
use Rattle.xs_pattern.proofs.Stepped.{all_ended, ended}
use Rattle.xs_pattern.proofs.words.fill_ends.Goals as goal

pub exit_of-requires : goal.exit_of-requires
exit_of-requires c =
    let len = ap length (c.deref.ensures.value ∙ c.in_ok-fill_marks.ensures) ∙ length_marks _ _ in
    let count = c.requires.count in omega (arith, len, count)

pub loop-position-preserved : goal.loop-position-preserved
loop-position-preserved c =
    ended c.args.edge (way_of c.args.way.now) c.args.count c.loop-position.position c.loop-position.ends.items c.push.new.self.items _ _ _
    c.requires.count (omega arith) c.requires.few c.in_ok-fill_marks.ensures c.deref.ensures.value c.loop-position.invariant c.exit_of.ensures.ends c.in_ok-push.ensures.items

pub returns : goal.returns
returns c =
    all_ended c.args.edge (way_of c.args.way.now) c.loop-position.position c.loop-position.ends.items
    (let count = c.requires.count in omega (arith, count)) c.loop-position.invariant
