use Rattle.std.proofs.Common.{arith, ◌∙◌}
use Rattle.schema_tree.specs.declared.verdicts.Place.TheVariants.{At}
use Rattle.bag_match.proofs.Failing.{lost_all, lost_next}
use Rattle.bag_match.proofs.search.Ahead.first_open.Goals as goal

pub loop-at-preserved : goal.loop-at-preserved
loop-at-preserved c = record {
  same = c.leads_nowhere.ensures.same ∙ c.loop-at.invariant.same;
  from = let le = c.loop-at.invariant.from in omega (arith, le);
  lost =
      lost_next c.args.self.now.shape.now.body c.args.self.now.more.now c.args.self.now.failed.now c.args.self.now.left c.args.counts.now.items c.args.places.now c.args.from
      c.loop-at.at (At 0) c.loop-at-test.true c.loop-at.invariant.lost c.loop-at.counts.items c.loop-at.invariant.same (c.leads_nowhere.ensures.lost c.if-not-leads_nowhere.false);
}

pub returns-clause-none : goal.returns-clause-none
returns-clause-none c none =
    lost_all c.args.self.now.shape.now.body c.args.self.now.more.now c.args.self.now.failed.now c.args.self.now.left c.args.counts.now.items c.args.places.now c.args.from
    c.loop-at.at c.loop-at-test.false c.loop-at.invariant.lost
