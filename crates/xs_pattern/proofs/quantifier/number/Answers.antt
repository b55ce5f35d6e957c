use Rattle.std.proofs.Common.{◌≡◌, ◌∙◌, ◌+◌, ◌*◌, arith, min}
use Rattle.std.specs.Char.{digit_value}
use Rattle.xs_pattern.proofs.Numbers.{number_on}
use Rattle.xs_pattern.proofs.quantifier.number.Goals as goal

pub loop-c-preserved : goal.loop-c-preserved
loop-c-preserved c =
    let on = number_on c.args.digits.now c.loop-c.c-index c.loop-c.number c.c-item.result c.loop-c-test.true c.loop-c.invariant.0 c.c-item.is in
    let new : c.min-number.result ≡ min (c.loop-c.number * 10 + digit_value c.c-item.result) 4097 = omega arith in
    (new ∙ on, omega arith)
