use Rattle.typing_session.proofs.Keeping.{gains_more, still_free}
use Rattle.typing_session.proofs.kept.Kept.keep_each.Goals as goal

pub keep-requires : goal.keep-requires
keep-requires g c =
    still_free (g.K.View.known c.args.found.now) c.args.pairs.now c.args.self.now c.loop-pair.self c.loop-pair.pair-index (record { node = record { 0 = 0 }; shape = record { 0 = 0 } }) c.loop-pair-test.true c.requires.distinct
    c.requires.new c.loop-pair.invariant

pub loop-pair-preserved : goal.loop-pair-preserved
loop-pair-preserved g c =
    gains_more (g.K.View.known c.args.found.now) c.args.pairs.now c.args.self.now c.loop-pair.self c.keep.new.self c.loop-pair.pair-index (record { node = record { 0 = 0 }; shape = record { 0 = 0 } }) c.pair.result c.loop-pair-test.true
    c.loop-pair.invariant c.in_ok-keep.ensures.kept c.pair.ensures
