use Rattle.std.proofs.Common.{◌+◌, ◌*◌, ◌%◌, refl, ap, ◌∙◌}
use Rattle.xs_text.proofs.Cycle.{remainder_more}
use Rattle.xs_text.proofs.date_time.is_leap_year.Goals as goal

pub loop-digit-preserved : goal.loop-digit-preserved
loop-digit-preserved c =
    ap (λ digit. (c.loop-digit.of_cycle * 10 + digit) % 400) c.from.ensures
    ∙ remainder_more c.loop-digit.of_cycle c.args.year.now c.loop-digit.digit-index _ c.requires c.loop-digit-test.true refl c.loop-digit.invariant
