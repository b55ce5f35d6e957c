use Rattle.std.proofs.Common.{◌∙◌}
use Rattle.std.proofs.lemmas.Bool.{OnTrue_at}
use Rattle.typing_refiner.proofs.Upheld.{left_to, stands_next}
use Rattle.typing_refiner.specs.Witnessed.{all_between}
use Rattle.typing_refiner.proofs.standing.stands_at.Goals as goal

pub loop-occ-preserved-then-is_repeated : goal.loop-occ-preserved-then-is_repeated
loop-occ-preserved-then-is_repeated g c = record {
  triples = c.loop-occ.invariant.triples;
  tally = c.loop-occ.invariant.tally;
  stands = λ h. left_to (g.J.Judge.hold c.args.judge.now) (g.J.Judge.fail c.args.judge.now) c.args.shape.now c.args.node c.args.end c.in-Some.later.now c.in-Some.occ.now
      c.between-triple.result c.between-triple.ensures (c.is_repeated.ensures.0 c.if-is_repeated.true) c.loop-occ.witness
      (stands_next (g.J.Judge.hold c.args.judge.now) (g.J.Judge.fail c.args.judge.now) c.args.shape.now c.args.node c.args.end c.loop-occ.rest.now c.in-Some.later.now c.in-Some.occ.now
      c.in-Some.ensures.cases.0 c.between-triple.result c.between-triple.ensures c.loop-occ.witness (c.loop-occ.invariant.stands h));
}

pub loop-occ-preserved : goal.loop-occ-preserved
loop-occ-preserved g c = record {
  triples = c.keeps.ensures.triples ∙ c.loop-occ.invariant.triples;
  tally = c.keeps.ensures.tally;
  stands = λ h. OnTrue_at c.if-not-branch.false c.in_ok-keeps.ensures.stands (all_between c.in-Some.later.now c.args.node c.args.end)
      (stands_next (g.J.Judge.hold c.args.judge.now) (g.J.Judge.fail c.args.judge.now) c.args.shape.now c.args.node c.args.end c.loop-occ.rest.now c.in-Some.later.now c.in-Some.occ.now
      c.in-Some.ensures.cases.0 c.between-triple.result c.between-triple.ensures c.loop-occ.witness (c.loop-occ.invariant.stands h));
}
