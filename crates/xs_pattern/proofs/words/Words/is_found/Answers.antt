use Rattle.std.proofs.Common.{refl}
use Rattle.std.specs.Str.{chars}
use Rattle.xs_pattern.specs.Way.{size}
use Rattle.xs_pattern.proofs.Bitwise.{marks_zero}
use Rattle.xs_pattern.proofs.Search.{begun, found_last, found_next, goes_on, missed_last}
use Rattle.xs_pattern.proofs.words.Words.is_found.Goals as goal

pub loop-c-init : goal.loop-c-init
loop-c-init c =
    rw (c.into_iter-c-iterator.ensures.into_iter_gives, c.chars-c-items.ensures.rest) (
      λ h. refl,
      λ ss w are. begun c.args.flags ss (chars c.args.text.now) w c.args.text.now _ c.utf8.text refl (marks_zero (size w)),
    )

pub loop-c-preserved : goal.loop-c-preserved
loop-c-preserved c = (
  λ h. absurd (cc),
  λ ss w are.
      goes_on c.args.flags ss (chars c.args.text.now) w c.loop-c.yielded _ _ _ _ _ _ _ _ _
      c.in-Some.ensures.steps.0 refl refl (c.in_ok-set.ensures ss w are) (c.leaves.ensures ss w are) c.if-leaves.false (c.loop-c.invariant.1 ss w are),
)

pub returns-then-leaves-clause-found : goal.returns-then-leaves-clause-found
returns-then-leaves-clause-found c = λ ss w are _.
    found_next c.args.flags ss (chars c.args.text.now) w c.loop-c.yielded _ _ _ _ _ _ _
    c.in-Some.ensures.steps.0 refl (c.leaves.ensures ss w are) c.if-leaves.true (c.loop-c.invariant.1 ss w are)

pub returns-clause-found : goal.returns-clause-found
returns-clause-found c = λ ss w are.
    found_last c.args.flags ss (chars c.args.text.now) w c.loop-c.yielded _ _ _ _ _
    c.in-None.ensures.steps.0.0 refl (c.leaves-2.ensures ss w are) (c.loop-c.invariant.1 ss w are)

pub returns-clause-missed : goal.returns-clause-missed
returns-clause-missed c = λ ss w are.
    missed_last c.args.flags ss (chars c.args.text.now) w c.loop-c.yielded _ _ _ _ _
    c.in-None.ensures.steps.0.0 refl (c.leaves-2.ensures ss w are) (c.loop-c.invariant.1 ss w are)
