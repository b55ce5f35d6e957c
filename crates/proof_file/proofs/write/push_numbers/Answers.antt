use Rattle.std.proofs.Common.{◌++◌, ◌∷◌, ap, ◌∙◌, take, drop, append_assoc, get_or, ◌-◌, length}
use Rattle.std.specs.Fmt.{decimal}
use Rattle.std.specs.List.{flat_map}
use Rattle.proof_file.proofs.Joined.{numbers_written}
use Rattle.proof_file.proofs.write.push_numbers.Goals as goal

pub returns-in_ok-push_separated-in-len1-up : goal.returns-in_ok-push_separated-in-len1-up
returns-in_ok-push_separated-in-len1-up c =
    c.in_ok-push_separated-in-len1-up.ensures
    ∙ ap (λ z. z ++ flat_map (λ n. 44 ∷ decimal n) (take (length c.args.numbers.now - 1) (drop 1 c.args.numbers.now))) c.in_ok-push_number-in-len1-up.ensures
    ∙ append_assoc c.args.out.now.items (decimal (get_or c.args.numbers.now 0 0)) (flat_map (λ n. 44 ∷ decimal n) (take (length c.args.numbers.now - 1) (drop 1 c.args.numbers.now)))
    ∙ ap (λ z. c.args.out.now.items ++ z) (numbers_written c.args.numbers.now c.in-len1-up.len_at_least)
