use Rattle.std.proofs.Common.{◌∙◌, ◌++◌, arith, ap, map}
use Rattle.xs_pattern.specs.Regex.{chars_of, regex_of}
use Rattle.xs_pattern.specs.Unrolling.{sets}
use Rattle.xs_pattern.proofs.Found.{found_result, sets_within}
use Rattle.xs_pattern.proofs.pattern.Pattern.found_anew.Goals as goal

pub unroll-requires : goal.unroll-requires
unroll-requires c =
    let all = sets_within (regex_of c.args.self.now.expression) in
    let small = c.args.self.now.small in
    omega arith

pub returns : goal.returns
returns c =
    found_result c.is_found.result c.args.self.now.flags _ (regex_of c.args.self.now.expression) _ _
    (ap (map chars_of) c.deref.ensures.value ∙ c.in_ok-add_sets.ensures
    ∙ ap (λ v. map chars_of v ++ sets (regex_of c.args.self.now.expression)) c.new-sets.ensures.items)
    c.in_ok-way.ensures.way c.is_found.ensures.found c.is_found.ensures.missed
