use Rattle.std.proofs.Common.{◌≡◌, ◌≤◌, ◌+◌, [], ◌∷◌, drop}
use Rattle.std.specs.Prelude.{count_by}
use Rattle.nonconformance.specs.Offers.{is_serving}
use Rattle.nonconformance.proofs.numbers.serving_count.Given as goal

abbrev pub invariant-loop-offer : goal.invariant-loop-offer
invariant-loop-offer l =
    record {
      left : l.count + count_by (is_serving (l.number ∷ [])) (drop l.offer-index l.offers) ≡ count_by (is_serving (l.number ∷ [])) l.offers;
      most : l.count ≤ l.offer-index;
    }
