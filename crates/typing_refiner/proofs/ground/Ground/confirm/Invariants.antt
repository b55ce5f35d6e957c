use Rattle.std.proofs.Common.{ℕ, ◌+◌, ◌*◌, ◌≤◌, suc, List, length, Contains}
use Rattle.schema_tree.specs.Sure.{Known}
use Rattle.schema_tree.specs.declared.schema.Pair.{Pair}
use Rattle.schema_tree.specs.declared.verdicts.Verdict.TheVariants.{Yes}
use Rattle.typing_refiner.specs.Spent.{GiveWidths, phase_ticks, still_to_tick}
use Rattle.typing_refiner.specs.Ready.{AllWait, IsConfirming, IsLow, IsRemoving, count_of}
use Rattle.typing_refiner.proofs.ground.Ground.confirm.Given as goal

abbrev pub invariant-loop-at : goal.invariant-loop-at
invariant-loop-at g l = record {
  confirming : (lower : Known) (gone : List Pair) → IsLow l.self lower l.stratum → IsRemoving l.self (g.K.View.known l.kept) lower l.stratum l.fn.marks gone (λ i. ⊥) →
      IsConfirming l.self (g.K.View.known l.kept) lower l.stratum l.marks gone (λ i. Contains l.agenda i);
  paid : (width : Pair → ℕ) → GiveWidths l.self width → l.steps + still_to_tick l.self width l.stratum Yes l.marks l.agenda ≤ l.fn.steps + phase_ticks l.self width l.stratum;
  waits : AllWait l.self l.stratum l.marks Yes l.agenda;
}

abbrev pub decreases-loop-at : goal.decreases-loop-at
decreases-loop-at g l = count_of Yes l.marks * suc (length l.self.table.now) + length l.agenda
