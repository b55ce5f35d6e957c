use Rattle.std.proofs.Common.{ap, length, subst, sym}
use Rattle.bag_match.specs.Hopes.{ArePlacesOfEach}
use Rattle.bag_match.proofs.Hopeful.{all_small, all_there}
use Rattle.bag_match.proofs.layers.Question.way.Goals as goal

pub offers_of-requires-clause-there : goal.offers_of-requires-clause-there
offers_of-requires-clause-there g c =
    subst (λ k. ArePlacesOfEach k c.args.offered.now) (sym (ap (λ occs. length occs) c.as_slice-occurrences.ensures))
    (all_there (g.J.Judge.hold c.args.self.now.judge.now) (g.J.Judge.fail c.args.self.now.judge.now) c.args.self.now.shape.now c.args.self.now.node c.args.self.now.triples.now c.args.offered.now c.requires.offered)

pub offers_of-requires-clause-small : goal.offers_of-requires-clause-small
offers_of-requires-clause-small g c = all_small (g.J.Judge.hold c.args.self.now.judge.now)
    (g.J.Judge.fail c.args.self.now.judge.now) c.args.self.now.shape.now c.args.self.now.node c.args.self.now.triples.now c.args.offered.now c.requires.offered c.requires.few
