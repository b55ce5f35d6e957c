use Rattle.std.proofs.Common.{ℕ, ◌⊎◌, Contains, drop, take}
use Rattle.std.specs.Prelude.{Some}
use Rattle.schema_tree.specs.declared.verdicts.Verdict.TheVariants.{Unknown}
use Rattle.typing_refiner.specs.Holding.{AllShowBut, CanMatchAt}
use Rattle.typing_refiner.specs.Ready.{Waits, known_of}
use Rattle.typing_refiner.proofs.ground.Ground.put_each_unshown.Given as goal

abbrev pub invariant-loop-other : goal.invariant-loop-other
invariant-loop-other g l = record {
  shows : AllShowBut l.self (known_of l.self (g.K.View.known l.kept) l.marks) l.gone (Some (drop l.other-index l.numbers)) l.pending.witnesses;
  put : (q : ℕ) → Contains l.pending.agenda q → Contains l.fn.pending.agenda q ⊎ (Contains (take l.other-index l.numbers) q × Waits l.self l.stratum l.marks Unknown q);
  kept : (q : ℕ) → Contains l.fn.pending.agenda q → Contains l.pending.agenda q;
  settled : (q : ℕ) → Contains (take l.other-index l.numbers) q → Waits l.self l.stratum l.marks Unknown q →
      Contains l.pending.agenda q ⊎ CanMatchAt l.self (known_of l.self (g.K.View.known l.kept) l.marks) q;
}
