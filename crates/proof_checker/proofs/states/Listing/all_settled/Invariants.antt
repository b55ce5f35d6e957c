use Rattle.std.proofs.Common.{drop}
use Rattle.bag_match.specs.Counts.{AreLeft}
use Rattle.proof_checker.proofs.Layered.{AreSettledBefore, IsFront}
use Rattle.proof_checker.proofs.states.Listing.all_settled.Given as goal

abbrev pub invariant-loop-done : goal.invariant-loop-done
invariant-loop-done g l =
    record {
      left : AreLeft l.self.shape.now.occs l.self.node (drop l.done l.self.triples.now) l.left.items;
      before : AreSettledBefore (g.J.Judge.hold l.self.judge.now) (g.J.Judge.fail l.self.judge.now) l.self.shape.now l.self.node l.self.triples.now l.self.states.now l.done l.rest;
      front : IsFront l.rest l.done l.size;
    }
