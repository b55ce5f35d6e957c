use Rattle.std.proofs.Common.{◌∙◌}
use Rattle.lists.proofs.Tests.{neither}
use Rattle.bag_match.proofs.Allowed.{as_many}
use Rattle.schema_tree.specs.Places.{AreAllowed}
use Rattle.bag_match.proofs.places.are_allowed.Goals as goal

pub returns-then-len-places : goal.returns-then-len-places
returns-then-len-places g c =
    neither (AreAllowed (g.J.Judge.hold c.args.judge.now) (g.J.Judge.fail c.args.judge.now) c.args.shape.now c.args.node c.args.triples.now c.args.places.now)
    (λ h. c.if-len-places.true (c.len.ensures ∙ as_many (g.J.Judge.hold c.args.judge.now) (g.J.Judge.fail c.args.judge.now) c.args.shape.now c.args.node c.args.triples.now c.args.places.now h))
