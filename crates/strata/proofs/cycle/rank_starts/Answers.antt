use Rattle.std.proofs.Common.{arith, length}
use Rattle.strata.proofs.Passing.{no_arc}
use Rattle.strata.proofs.Searching.{has_next, risen_on}
use Rattle.strata.proofs.cycle.rank_starts.Goals as goal

pub rank_start-requires-clause-held : goal.rank_start-requires-clause-held
rank_start-requires-clause-held c = (c.requires.held c.loop-arc.arc-index no_arc c.loop-arc-test.true).0

pub loop-arc-preserved : goal.loop-arc-preserved
loop-arc-preserved c =
    let last = c.in_ok-rank_start.ensures in
    record {
      found = last.found;
      more = omega (arith, c.loop-arc.invariant.more, last.more);
      risen = risen_on (length c.args.found.now.items)
          (length c.loop-arc.found.items) c.args.ranks.now.items c.loop-arc.ranks.items c.rank_start.new.ranks.items c.loop-arc.invariant.more c.loop-arc.invariant.risen last.risen;
      has = has_next c.args.leading.now c.loop-arc.arc-index (length c.loop-arc.found.items) no_arc c.loop-arc.ranks.items c.rank_start.new.ranks.items last.risen c.loop-arc-test.true c.loop-arc.invariant.has last.has;
    }
