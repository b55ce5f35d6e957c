use Rattle.std.proofs.Common.{sym, ◌∙◌, true≢false}
use Rattle.std.specs.Str.{chars}
use Rattle.node_constraint.specs.Held.{IsFoundIn}
use Rattle.node_constraint.proofs.Turning.{ends_here, goes_on}
use Rattle.node_constraint.proofs.patterns.all_found.Goals as goal

pub loop-pattern-preserved : goal.loop-pattern-preserved
loop-pattern-preserved c =
    goes_on (IsFoundIn (chars c.args.text.now)) c.args.patterns.now c.loop-pattern.pattern-index c.pattern-item.result c.loop-pattern-test.true c.pattern-item.is
    (c.in_ok-found.ensures.0 c.if-not-branch.false) _ c.loop-pattern.invariant

pub returns-then-not-branch : goal.returns-then-not-branch
returns-then-not-branch c =
    ends_here (IsFoundIn (chars c.args.text.now)) c.args.patterns.now c.loop-pattern.pattern-index c.pattern-item.result c.loop-pattern-test.true c.pattern-item.is
    (λ h. true≢false (sym (c.in_ok-found.ensures.1 h) ∙ c.if-not-branch.true)) _ c.loop-pattern.invariant
