use Rattle.std.proofs.Common.{◌≡◌, ◌∙◌}
use Rattle.clap.specs.Words.{found_of}
use Rattle.clap.proofs.WalkLemmas.{raw_values-rows}
use Rattle.command_words.proofs.Found.{some_values, no_values}
use Rattle.command_words.proofs.matches.values_of.Goals as goal

pub returns-in_ok-all-in-Some : goal.returns-in_ok-all-in-Some
returns-in_ok-all-in-Some c =
    let found = raw_values-rows (found_of c.args.matches.now) c.args.name.now in
    let same : c.in_ok-all-in-Some.all.items ≡ c.in-Some.values.now = c.in_ok-all-in-Some.ensures.items_if_clones_equal (λ x y e. e) in
    rw same (some_values _ _ (c.in-Some.ensures ∙ found))

pub returns-in-None : goal.returns-in-None
returns-in-None c =
    let found = raw_values-rows (found_of c.args.matches.now) c.args.name.now in
    rw c.new.ensures.items (no_values _ (c.in-None.ensures ∙ found))
