use Rattle.std.proofs.Common.{◌≡◌, ◌≢◌, ℕ, length}
use Rattle.std.specs.Prelude.{slice_get}
use Rattle.typing_refiner.specs.Witnessed.{IsTally}
use Rattle.typing_refiner.proofs.witness.Witness.take_one.Given as goal

abbrev pub invariant-loop-place : goal.invariant-loop-place
invariant-loop-place l = record {
  triples : l.self.triples ≡ l.fn.self.triples;
  untried : l.self.untried ≡ l.fn.self.untried;
  tally : IsTally (length l.shape.occs) l.self;
  long : length l.self.places.items ≡ length l.fn.self.places.items;
  others : (i : ℕ) → i ≢ l.at → slice_get l.self.places.items i ≡ slice_get l.fn.self.places.items i;
}
