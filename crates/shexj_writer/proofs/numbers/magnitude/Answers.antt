use Rattle.std.proofs.Common.{◌<◌, ◌+◌, length, arith}
use Rattle.std.proofs.lemmas.Grind.{common_steps}
use Rattle.std.proofs.lemmas.Int.Digits.{digits_value_more}
use Rattle.std.proofs.lemmas.Str.Parse.{digits_value-take-le}
use Rattle.shexj_writer.proofs.Digits.{digit_at}
use Rattle.shexj_writer.proofs.numbers.magnitude.Goals as goal

pub returns-in_err-tens-clause-none : goal.returns-in_err-tens-clause-none
returns-in_err-tens-clause-none c =
    let bs = c.args.digits.now in
    let i = c.loop-digit.digit-index in
    let lt : i < length bs = omega arith in
    let more = digits_value_more 10 bs i lt in
    let most = digits_value-take-le 10 bs (i + 1) (omega arith) in
    grind (arith, common_steps)

pub returns-in_err-sum-clause-none : goal.returns-in_err-sum-clause-none
returns-in_err-sum-clause-none c =
    let bs = c.args.digits.now in
    let i = c.loop-digit.digit-index in
    let lt : i < length bs = omega arith in
    let more = digits_value_more 10 bs i lt in
    let most = digits_value-take-le 10 bs (i + 1) (omega arith) in
    let digit = digit_at bs i c.requires lt in
    grind (arith, common_steps)

pub loop-digit-preserved : goal.loop-digit-preserved
loop-digit-preserved c =
    let bs = c.args.digits.now in
    let i = c.loop-digit.digit-index in
    let lt : i < length bs = omega arith in
    let more = digits_value_more 10 bs i lt in
    let digit = digit_at bs i c.requires lt in
    grind (arith, common_steps)
