use Rattle.std.proofs.Common.{◌≡◌, length}
use Rattle.typing_refiner.specs.Witnessed.{IsStanding, IsTally, all_between}
use Rattle.typing_refiner.proofs.standing.stands_at.Given as goal

abbrev pub invariant-loop-occ : goal.invariant-loop-occ
invariant-loop-occ g l = record {
  triples : l.witness.triples ≡ l.fn.witness.triples;
  tally : IsTally (length l.shape.occs) l.witness;
  stands : IsStanding (g.J.Judge.hold l.judge) (g.J.Judge.fail l.judge) l.shape l.node (all_between l.shape.occs l.node l.end) l.fn.witness →
      IsStanding (g.J.Judge.hold l.judge) (g.J.Judge.fail l.judge) l.shape l.node (all_between l.rest l.node l.end) l.witness;
}

abbrev pub decreases-loop-occ : goal.decreases-loop-occ
decreases-loop-occ g l = length l.rest
