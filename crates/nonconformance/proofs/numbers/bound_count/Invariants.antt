use Rattle.std.proofs.Common.{◌≡◌, ◌≤◌, ◌+◌, [], ◌∷◌, drop}
use Rattle.std.specs.Prelude.{count_by}
use Rattle.nonconformance.specs.Offers.{is_bound}
use Rattle.nonconformance.proofs.numbers.bound_count.Given as goal

abbrev pub invariant-loop-offer : goal.invariant-loop-offer
invariant-loop-offer l =
    record {
      left : l.count + count_by (is_bound (l.number ∷ [])) (drop l.offer-index l.offers) ≡ count_by (is_bound (l.number ∷ [])) l.offers;
      most : l.count ≤ l.offer-index;
    }
