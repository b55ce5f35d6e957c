use Rattle.bag_match.specs.Least.{AreOffered}
use Rattle.bag_match.proofs.layers.Question.offered.Given as goal

abbrev pub invariant-loop-i : goal.invariant-loop-i
invariant-loop-i g l = AreOffered (g.J.Judge.hold l.self.judge.now) (g.J.Judge.fail l.self.judge.now) l.self.shape.now l.self.node l.self.triples.now l.i l.lists
