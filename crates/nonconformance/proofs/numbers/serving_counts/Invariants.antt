use Rattle.std.proofs.Common.{length, [], ◌∷◌}
use Rattle.nonconformance.specs.Offers.{AreCounts, all_serving}
use Rattle.nonconformance.proofs.numbers.serving_counts.Given as goal

abbrev pub invariant-loop-i : goal.invariant-loop-i
invariant-loop-i l = AreCounts (λ i. length (all_serving (i ∷ []) l.offers)) l.i l.numbers.items
