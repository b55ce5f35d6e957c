use Rattle.bag_match.specs.Searches.{IsSearch, turns_left}
use Rattle.bag_match.proofs.layers.Question.search.Given as goal

abbrev pub invariant-loop-alloc : goal.invariant-loop-alloc
invariant-loop-alloc g l =
    IsSearch (g.J.Judge.hold l.self.judge.now) (g.J.Judge.fail l.self.judge.now) l.self.shape.now l.self.node l.self.triples.now l.offered
    l.way.places.items l.way.tried.items l.way.counts.items l.way.more.items l.way.failed.items l.from

abbrev pub decreases-loop-alloc : goal.decreases-loop-alloc
decreases-loop-alloc g l = turns_left l.offered l.way.tried.items l.from
