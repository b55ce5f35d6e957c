use Rattle.std.proofs.Common.{◌≡◌, ◌++◌, ◌∷◌, ◌-◌, [], arith, length, rules, subst}
use Rattle.schema_load.proofs.Grouped.{joined_more, popped_last}
use Rattle.schema_load.proofs.groups.join.Goals as goal

pub loop-start-preserved : goal.loop-start-preserved
loop-start-preserved c =
    let (init, ends) = c.in-Some.ensures.some in
    let count : length c.pop.new.self.items ≡ length c.loop-start.starts.items - 1 = search rules in
    let popped = popped_last c.loop-start.starts.items c.pop.new.self.items init c.in-Some.start c.pop.result c.pop.ensures.items (subst (λ z. z ≡
    init ++ c.in-Some.start ∷ []) c.as_slice.ensures.value ends) count in
    joined_more c.args.starts.now.items c.args.position c.loop-start.starts.items c.pop.new.self.items c.in-Some.start popped (let h = c.if-start-position.false in omega arith) c.loop-start.invariant
