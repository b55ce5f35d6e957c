-- Lists without repetition.
use Rattle.std.specs.Prelude.{ℕ, List, ◌≡◌, slice_get, Some}

-- no item stands at two places
abbrev pub AreDistinct : {X : Type 0} → List X → Type 0
AreDistinct xs = (i j : ℕ) (x : _) → slice_get xs i ≡ Some x → slice_get xs j ≡ Some x → i ≡ j
