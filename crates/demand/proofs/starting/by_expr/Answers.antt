use Rattle.std.proofs.Common.{◌≡◌, rules, subst}
use Rattle.std.specs.List.Sorted.{IsPermutation}
use Rattle.demand.proofs.starting.by_expr.Goals as goal

pub returns : goal.returns
returns c =
    let made : c.in_ok-ordered.ordered.items ≡ c.args.roots.now = search rules in
    subst (λ xs. IsPermutation xs c.sort_by.new.self.items) made c.in_ok-sort_by.ensures.permutation
