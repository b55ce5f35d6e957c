use Rattle.std.proofs.Common.{◌≤◌, ◌<◌, ◌+◌, ◌*◌, ℕ, List, length}
use Rattle.std.specs.Prelude.{Contains}
use Rattle.schema_tree.specs.declared.verdicts.Place.{Place}
use Rattle.bag_match.specs.Bounds.{AreApart}
use Rattle.bag_match.specs.Searches.{failed_at}
use Rattle.bag_match.proofs.looking.tick_looked.Given as goal

abbrev pub invariant-loop-done : goal.invariant-loop-done
invariant-loop-done g l =
    record {
      least : l.fn.steps + l.done ≤ l.steps;
      most : (bound : ℕ) → 1 ≤ bound → ((places : List Place) → Contains l.offered places → length places ≤ bound)
          → ((left : ℕ) → left < length l.taken → AreApart (failed_at l.failed left) → length (failed_at l.failed left) + 1 ≤ bound) → l.steps ≤ l.fn.steps + (l.done + 1) * bound;
    }
