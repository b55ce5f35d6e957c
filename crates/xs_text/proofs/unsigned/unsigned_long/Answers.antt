use Rattle.std.proofs.Common.{◌≡◌, ◌≢◌, get_or, arith, lit<, ◌<◌, length}
use Rattle.std.proofs.lemmas.Str.Pattern.{starts_char}
use Rattle.xs_text.proofs.Naturals.{no_plus, no_zero, not_true, number_found, number_missed, number_small}
use Rattle.xs_text.proofs.unsigned.unsigned_long.Goals as goal
use Rattle.xs_text.proofs.unsigned.unsigned_long.Goals.{else-text-gt1-via-then-text-gt1+else-starts_with-2, else-text-gt1-via-else-text-gt1}

pub returns-then-starts_with-clause-missed : goal.returns-then-starts_with-clause-missed
returns-then-starts_with-clause-missed c =
    λ none n h e. no_plus c.args.text.now n ((starts_char 43 c.args.text.now c.starts_with.result c.starts_with.ensures.cases (lit< tt) (lit< tt)).0 c.if-starts_with.true) h e

pub returns-then-starts_with-2-clause-missed : goal.returns-then-starts_with-2-clause-missed
returns-then-starts_with-2-clause-missed c =
    λ none n h e. no_zero c.args.text.now n
    ((starts_char 48 c.args.text.now c.starts_with-then-text-gt1.result c.starts_with-then-text-gt1.ensures.cases (lit< tt) (lit< tt)).0 c.if-starts_with-2.true)
    c.if-text-gt1.true h e

pub returns-in-Ok-clause-found : goal.returns-in-Ok-clause-found
returns-in-Ok-clause-found c =
    let zeros : 1 < length c.args.text.now → get_or c.args.text.now 0 0 ≢ 48 =
    elim c.else-text-gt1.branch [
      | else-text-gt1-via-then-text-gt1+else-starts_with-2 w ↦ λ long. not_true w.starts_with-then-text-gt1.result (get_or c.args.text.now 0 0 ≡ 48)
          (starts_char 48 c.args.text.now w.starts_with-then-text-gt1.result w.starts_with-then-text-gt1.ensures.cases (lit< tt) (lit< tt)) w.if-starts_with-2.false
      | else-text-gt1-via-else-text-gt1 w ↦ λ long is. omega (arith, w.if-text-gt1.false, long)
    ] in
    number_found c.args.text.now c.parse.result c.in-Ok.n c.in-Ok.is c.parse.ensures.value.0
    (not_true c.starts_with.result (get_or c.args.text.now 0 0 ≡ 43) (starts_char 43 c.args.text.now c.starts_with.result c.starts_with.ensures.cases (lit< tt) (lit< tt)) c.if-starts_with.false) zeros

pub returns-in-Err-clause-missed : goal.returns-in-Err-clause-missed
returns-in-Err-clause-missed c = λ none. number_missed c.args.text.now c.parse.result c.in-Err.field-0 c.in-Err.is c.parse.ensures.value.0

pub returns-in-Ok-clause-small : goal.returns-in-Ok-clause-small
returns-in-Ok-clause-small c =
    number_small c.args.text.now c.parse.result c.in-Ok.n c.in-Ok.is c.parse.ensures.value.0
    (not_true c.starts_with.result (get_or c.args.text.now 0 0 ≡ 43) (starts_char 43 c.args.text.now c.starts_with.result c.starts_with.ensures.cases (lit< tt) (lit< tt)) c.if-starts_with.false)
