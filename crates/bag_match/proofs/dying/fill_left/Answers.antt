use Rattle.std.proofs.Common.{◌+◌, ◌++◌, arith}
use Rattle.std.specs.Prelude.{slice_get}
use Rattle.schema_tree.specs.States.{fitting}
use Rattle.bag_match.proofs.Filled.{both_fit, filled, inward}
use Rattle.bag_match.proofs.dying.fill_left.Goals as goal

pub loop-i-preserved : goal.loop-i-preserved
loop-i-preserved c = λ j lt.
    filled c.loop-i.left (λ k. fitting c.args.node (c.args.outs.now ++ inward c.args.ins.now) (slice_get c.args.occs.now k)) c.loop-i.i (c.fitting.result + c.fitting_inward.result)
    (omega (arith, c.loop-i.auto.left, c.requires.room, c.loop-i-test.true)) c.loop-i.invariant
    (both_fit c.args.node c.args.outs.now c.args.ins.now c.args.occs.now c.loop-i.i _ c.fitting.result c.fitting_inward.result c.loop-i-test.true c.fitting.ensures.count c.fitting_inward.ensures.count) j lt
