use Rattle.std.proofs.Common.{◌≡◌, List, length}
use Rattle.rdf_terms.specs.declared.terms.Triple.{Triple}
use Rattle.typing_refiner.specs.Witnessed.{ArePlaced, IsTally}
use Rattle.typing_refiner.proofs.witness.Witness.exchange.Given as goal

abbrev pub invariant-loop-at : goal.invariant-loop-at
invariant-loop-at g l = record {
  triples : l.self.triples ≡ l.fn.self.triples;
  tally : IsTally (length l.shape.occs) l.self;
  placed : (free : List Triple) → ArePlaced (g.J.Judge.hold l.judge) (g.J.Judge.fail l.judge) l.shape l.node free l.fn.self →
      ArePlaced (g.J.Judge.hold l.judge) (g.J.Judge.fail l.judge) l.shape l.node free l.self;
}

abbrev pub decreases-loop-at : goal.decreases-loop-at
decreases-loop-at g l = l.at
