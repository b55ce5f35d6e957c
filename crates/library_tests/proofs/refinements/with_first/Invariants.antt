use Rattle.std.proofs.Common.{◌≡◌, ◌++◌, drop, filter, nat_eq}
use Rattle.library_tests.proofs.refinements.with_first.Given as goal

abbrev pub invariant-loop-pair : goal.invariant-loop-pair
invariant-loop-pair l = filter (λ p. nat_eq p.shape.0 0) l.pairs ≡ l.found.items ++ filter (λ p. nat_eq p.shape.0 0) (drop l.pair-index l.pairs)
