use Rattle.std.specs.List.{prefix_len}
use Rattle.xs_text.proofs.Zeros.{is_zero, no_leading, are_digits-drop}
use Rattle.std.proofs.Common.{◌==◌, ◌∙◌, rules, tests}
use Rattle.std.proofs.lemmas.List.{take_rest}
use Rattle.std.proofs.lemmas.List.Folds.{length-prefix_len}
use Rattle.std.proofs.lemmas.Iterator.{YieldsList-from_slice}
use Rattle.std.proofs.lemmas.Iterator.Consumers.{count_from_yields_List}
use Rattle.std.proofs.lemmas.Iterator.Search.{YieldsList-from_take_while}
use Rattle.xs_text.proofs.decimal.without_leading_zeros.Goals as goal

pub returns-clause-value : goal.returns-clause-value
returns-clause-value c =
    let zeros = count_from_yields_List c.take_while.result _ c.count-zeros.ensures.ran (YieldsList-from_take_while _ (λ b. b == 48) (YieldsList-from_slice c.args.digits.now cc) c.take_while.ensures.closure c.take_while.ensures.done (λ x b q k. search (rules, tests))) ∙ length-prefix_len (λ b. b == 48) c.args.digits.now in
    rw (take_rest, zeros)

pub returns-clause-digits : goal.returns-clause-digits
returns-clause-digits c =
    rw (returns-clause-value c) (are_digits-drop (prefix_len is_zero c.args.digits.now) c.args.digits.now c.requires)

pub returns-clause-first : goal.returns-clause-first
returns-clause-first c =
    rw (returns-clause-value c) (no_leading c.args.digits.now)
