use Rattle.std.proofs.Common.{◌≡◌, ◌∙◌, ap, length}
use Rattle.std.specs.Prelude.{nat_le}
use Rattle.std.specs.Str.Parse.{digits_value}
use Rattle.std.specs.Ordering.{nat_cmp, ordering_then, is_le}
use Rattle.std.specs.Cmp.Lexicographic.{slice_cmp}
use Rattle.xs_pattern.proofs.Numbers.{at_most_told}
use Rattle.xs_pattern.proofs.quantifier.is_at_most.Goals as goal

pub returns : goal.returns
returns c =
    let first = c.without_zeros-first.ensures in
    let second = c.without_zeros-second.ensures in
    let told = at_most_told c.without_zeros-first.result.now c.without_zeros-second.result.now first.digits second.digits first.first second.first in
    let test : c.is_le.result ≡
    is_le (ordering_then (nat_cmp (length c.without_zeros-first.result.now) (length c.without_zeros-second.result.now)) (slice_cmp nat_cmp c.without_zeros-first.result.now c.without_zeros-second.result.now)) = cc in
    test ∙ (told ∙ (ap (λ v. nat_le v (digits_value 10 c.without_zeros-second.result.now)) first.value ∙ ap (λ v. nat_le (digits_value 10 c.args.first.now) v) second.value))
