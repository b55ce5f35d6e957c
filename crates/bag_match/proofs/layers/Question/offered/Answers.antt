use Rattle.std.proofs.Common.{subst, sym}
use Rattle.std.proofs.lemmas.Option.{get_or_from_slice_get}
use Rattle.bag_match.specs.Least.{ArePlacesFor}
use Rattle.bag_match.proofs.Layering.{offered_more}
use Rattle.bag_match.proofs.layers.Question.offered.Goals as goal

pub loop-i-preserved : goal.loop-i-preserved
loop-i-preserved g c =
    offered_more (g.J.Judge.hold c.args.self.now.judge.now) (g.J.Judge.fail c.args.self.now.judge.now) c.args.self.now.shape.now c.args.self.now.node c.args.self.now.triples.now
    c.loop-i.i c.at-triple.result c.loop-i.lists c.push.new.self c.as_slice.result.now c.find_allowed.new.found.items
    c.loop-i.invariant c.in_ok-push.ensures c.as_slice.ensures.value
    (subst (λ t. ArePlacesFor (g.J.Judge.hold c.args.self.now.judge.now) (g.J.Judge.fail c.args.self.now.judge.now) c.args.self.now.shape.now c.args.self.now.node t c.find_allowed.new.found.items) (sym (get_or_from_slice_get c.args.self.now.triples.now c.loop-i.i c.at-triple.result c.at-triple.result c.at-triple.ensures.at)) c.in_ok-find_allowed.ensures)
