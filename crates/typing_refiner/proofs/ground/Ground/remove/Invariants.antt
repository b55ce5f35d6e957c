use Rattle.std.proofs.Common.{ℕ, ◌+◌, ◌*◌, ◌≤◌, suc, map, length, Contains}
use Rattle.schema_tree.specs.Sure.{Known}
use Rattle.schema_tree.specs.declared.schema.Pair.{Pair}
use Rattle.schema_tree.specs.declared.verdicts.Verdict.TheVariants.{Unknown}
use Rattle.typing_refiner.specs.Spent.{GiveWidths, phase_ticks, still_to_tick}
use Rattle.typing_refiner.specs.Records.{HaveStates}
use Rattle.typing_refiner.specs.Ready.{AllWait, IsBefore, IsRemoving, count_of, known_of}
use Rattle.typing_refiner.specs.Holding.{AllShow}
use Rattle.typing_refiner.proofs.ground.Ground.remove.Given as goal

abbrev pub invariant-loop-at : goal.invariant-loop-at
invariant-loop-at g l = record {
  removing : (lower : Known) → IsBefore l.self (g.K.View.known l.kept) lower l.stratum l.fn.marks →
      IsRemoving l.self (g.K.View.known l.kept) lower l.stratum l.marks (map (λ r. r.pair) l.gone.items) (λ i. Contains l.pending.agenda i);
  states : (lower : Known) → IsBefore l.self (g.K.View.known l.kept) lower l.stratum l.fn.marks → HaveStates l.self lower l.gone.items;
  paid : (width : Pair → ℕ) → GiveWidths l.self width → l.steps + still_to_tick l.self width l.stratum Unknown l.marks l.pending.agenda ≤ l.fn.steps + phase_ticks l.self width l.stratum;
  few : length l.gone.items + count_of Unknown l.marks ≤ length l.self.table.now;
  shows : AllShow l.self (known_of l.self (g.K.View.known l.kept) l.marks) l.pending.witnesses;
  waits : AllWait l.self l.stratum l.marks Unknown l.pending.agenda;
}

abbrev pub decreases-loop-at : goal.decreases-loop-at
decreases-loop-at g l = count_of Unknown l.marks * suc (length l.self.table.now) + length l.pending.agenda
