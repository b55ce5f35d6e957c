use Rattle.std.proofs.Common.{length, ◌-◌}
use Rattle.std.specs.List.{suffix_len}
use Rattle.xs_text.proofs.Zeros.{is_zero, no_trailing, are_digits-take}
use Rattle.std.proofs.Common.{◌==◌, ◌∙◌, reverse, rules, tests}
use Rattle.std.proofs.lemmas.List.Folds.{length-prefix_len}
use Rattle.std.proofs.lemmas.Iterator.Adapters.{YieldsList-from_rev_slice}
use Rattle.std.proofs.lemmas.Iterator.Consumers.{count_from_yields_List}
use Rattle.std.proofs.lemmas.Iterator.Search.{YieldsList-from_take_while}
use Rattle.xs_text.proofs.decimal.without_trailing_zeros.Goals as goal

pub returns-clause-value : goal.returns-clause-value
returns-clause-value c =
    let zeros = count_from_yields_List c.take_while.result _ c.count-zeros.ensures.ran (YieldsList-from_take_while _ (λ b. b == 48) (YieldsList-from_rev_slice c.args.digits.now cc) c.take_while.ensures.closure c.take_while.ensures.done (λ x b q k. search (rules, tests))) ∙ length-prefix_len (λ b. b == 48) (reverse c.args.digits.now) in
    rw (zeros)

pub returns-clause-digits : goal.returns-clause-digits
returns-clause-digits c =
    rw (returns-clause-value c) (are_digits-take (length c.args.digits.now - suffix_len is_zero c.args.digits.now) c.args.digits.now c.requires)

pub returns-clause-last : goal.returns-clause-last
returns-clause-last c =
    rw (returns-clause-value c) (no_trailing c.args.digits.now)
