use Rattle.std.proofs.Common.{◌≡◌, sym, ap, get_or, lit<, ◌∙◌}
use Rattle.std.proofs.lemmas.Str.Pattern.{starts_char}
use Rattle.shexc_constraints.proofs.Counting.{count_read, plus_none, not_true, found}
use Rattle.shexc_constraints.proofs.numbers.count.Goals as goal

pub returns-then-starts_with : goal.returns-then-starts_with
returns-then-starts_with c = sym (plus_none c.args.digits.now ((starts_char 43 c.args.digits.now c.starts_with.result c.starts_with.ensures.cases (lit< tt) (lit< tt)).0 c.if-starts_with.true))

pub returns-in-Ok : goal.returns-in-Ok
returns-in-Ok c = sym (count_read c.args.digits.now c.parse.result c.parse.ensures.value.0
    (not_true c.starts_with.result (get_or c.args.digits.now 0 0 ≡
    43) (starts_char 43 c.args.digits.now c.starts_with.result c.starts_with.ensures.cases (lit< tt) (lit< tt)) c.if-starts_with.false) ∙ ap found c.in-Ok.is)

pub returns-in-Err : goal.returns-in-Err
returns-in-Err c = sym (count_read c.args.digits.now c.parse.result c.parse.ensures.value.0
    (not_true c.starts_with.result (get_or c.args.digits.now 0 0 ≡
    43) (starts_char 43 c.args.digits.now c.starts_with.result c.starts_with.ensures.cases (lit< tt) (lit< tt)) c.if-starts_with.false) ∙ ap found c.in-Err.is)
