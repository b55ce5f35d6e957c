use Rattle.std.proofs.Common.{ℕ, ap, arith, length, map, subst, sym}
use Rattle.std.specs.Prelude.{◌↔◌}
use Rattle.schema_tree.proofs.Below.{level_top}
use Rattle.typing_refiner.specs.Building.{HasAt}
use Rattle.typing_refiner.specs.Ready.{IsOpen}
use Rattle.typing_refiner.proofs.ground.Ground.refine_strata.Goals as goal

pub members-requires-clause-strata : goal.members-requires-clause-strata
members-requires-clause-strata g c = λ i. let t = level_top c.args.self.now.strata.now i.0 in let e = c.top.ensures in let f = c.from-count.ensures in omega (arith, t, e, f)

pub refine_each-requires-clause-each : goal.refine_each-requires-clause-each
refine_each-requires-clause-each g c =
    let a = ap length c.as_slice.ensures.value in let n = c.in_ok-members.ensures.count in let t = c.top.ensures in let f = c.from-count.ensures in omega (arith, a, n, t, f)

pub refine_each-requires-clause-members : goal.refine_each-requires-clause-members
refine_each-requires-clause-members g c =
    subst (λ xs. (k i : ℕ) → HasAt (map (λ l. l.items) xs) k i ↔ IsOpen c.args.self.now k i) (sym c.as_slice.ensures.value) c.in_ok-members.ensures.members
