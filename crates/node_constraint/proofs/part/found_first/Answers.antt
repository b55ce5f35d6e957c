use Rattle.std.specs.Str.{chars}
use Rattle.node_constraint.proofs.Failing.{is_found, not_found}
use Rattle.node_constraint.proofs.part.found_first.Goals as goal

pub returns-then-branch : goal.returns-then-branch
returns-then-branch c = λ t ts sealed.
    is_found t ts (chars c.args.text.now) c.args.patterns.now c.in-Some.rest.now c.in-Some.first.now c.in-Some.ensures.cases.0 c.if-branch.true c.in_ok-found.ensures sealed

pub returns-else-branch : goal.returns-else-branch
returns-else-branch c = λ t ts sealed.
    not_found t ts (chars c.args.text.now) c.args.patterns.now c.in-Some.rest.now c.in-Some.first.now c.in-Some.ensures.cases.0 c.if-branch.false c.in_ok-found.ensures sealed
