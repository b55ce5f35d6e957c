use Rattle.std.proofs.Common.{◌∙◌, arith, map}
use Rattle.strata.proofs.Rising.{have_ends}
use Rattle.strata.proofs.Passing.{no_arc}
use Rattle.strata.proofs.ByEnd.{put_all, put_next}
use Rattle.strata.proofs.ends.by_end.Goals as goal

pub put_arc-requires : goal.put_arc-requires
put_arc-requires c =
    let ends = have_ends c.args.s.now c.requires.loaded c.args.arcs.now c.requires.edges c.loop-arc.arc-index no_arc c.loop-arc-test.true in
    record { there = omega (arith, ends.1, c.loop-arc.invariant.count) }

pub loop-arc-preserved : goal.loop-arc-preserved
loop-arc-preserved c = record {
  count = c.in_ok-put_arc.ensures.same ∙ c.loop-arc.invariant.count;
  each = put_next c.args.arcs.now c.loop-arc.arc-index no_arc (map (λ v. v.items) c.loop-arc.lists.items) (map (λ v. v.items) c.put_arc.new.lists.items) c.loop-arc-test.true
      c.loop-arc.invariant.each c.in_ok-put_arc.ensures.put;
}

pub returns-clause-each : goal.returns-clause-each
returns-clause-each c =
    put_all c.args.arcs.now c.loop-arc.arc-index (map (λ v. v.items) c.loop-arc.lists.items) (let h = c.loop-arc-test.false in omega (arith, h)) c.loop-arc.invariant.each
