-- Tests and what they mean.
use Rattle.std.proofs.Common.{◌≡◌, refl, sym, Bool, true, false, true≢false}
use Rattle.std.specs.Prelude.{IsTrue, ◌||◌, ◌↔◌, not}

-- where one of two tests passes and not the first, the second does
pub other_passes : (a b : Bool) → a || b ≡ true → not a ≡ true → b ≡ true
other_passes true b e n = absurd (true≢false (sym n))
other_passes false b e n = e

-- a test that fails tells what does not hold
pub neither : (A : Type 0) → (¬ A) → IsTrue false ↔ A
neither A not_a = ((λ h. absurd (true≢false (sym h))), λ a. absurd (not_a a))

-- and one that passes what holds
pub holds_so : (A : Type 0) → A → IsTrue true ↔ A
holds_so A a = ((λ h. a), λ b. refl)
