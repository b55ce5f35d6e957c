use Rattle.std.proofs.Common.{◌∙◌}
use Rattle.std.proofs.lemmas.Bool.{OnTrue_at}
use Rattle.typing_refiner.proofs.witness.Witness.exchange.Goals as goal

pub returns-then-branch-clause-stands : goal.returns-then-branch-clause-stands
returns-then-branch-clause-stands g c = λ free h. record {
  allowed = c.in_ok-settles.ensures.placed free (c.loop-at.invariant.placed free h);
  spelled = OnTrue_at c.if-branch.true c.in_ok-settles.ensures.spelled;
}

pub loop-at-preserved : goal.loop-at-preserved
loop-at-preserved g c = record {
  triples = c.settles.ensures.triples ∙ c.loop-at.invariant.triples;
  tally = c.settles.ensures.tally;
  placed = λ free h. c.in_ok-settles.ensures.placed free (c.loop-at.invariant.placed free h);
}
