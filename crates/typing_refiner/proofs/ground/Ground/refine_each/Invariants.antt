use Rattle.std.proofs.Common.{ℕ, ◌+◌, ◌*◌, ◌≤◌, map}
use Rattle.removal_laws.specs.Costs.{total}
use Rattle.schema_tree.specs.declared.schema.Pair.{Pair}
use Rattle.typing_refiner.specs.Spent.{GiveWidths, phase_ticks}
use Rattle.typing_refiner.specs.Ready.{known_of}
use Rattle.typing_refiner.specs.Records.{IsShownOver}
use Rattle.typing_refiner.specs.Refined.{IsRefinedOver}
use Rattle.typing_refiner.proofs.ground.Ground.refine_each.Given as goal

abbrev pub invariant-loop-stratum : goal.invariant-loop-stratum
invariant-loop-stratum g l = record {
  refined : IsRefinedOver l.self (g.K.View.known l.kept) (known_of l.self (g.K.View.known l.kept) l.fn.marks) l.stratum l.marks;
  shown : IsShownOver l.self (g.K.View.known l.kept) (known_of l.self (g.K.View.known l.kept) l.fn.marks) l.stratum l.marks (map (λ v. v.items) l.all.items);
  spent : (width : Pair → ℕ) → GiveWidths l.self width → l.steps ≤ l.fn.steps + total (λ k. 2 * phase_ticks l.self width k) l.stratum;
}
