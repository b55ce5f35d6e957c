-- Statements that hold exactly where others do.
use Rattle.std.specs.Prelude.{◌↔◌}

-- where it holds itself
pub itself : {A : Type 0} → A ↔ A
itself = ((λ h. h), λ h. h)

-- one after the other
pub in_turn : {A B C : Type 0} → A ↔ B → B ↔ C → A ↔ C
in_turn h k = ((λ a. k.0 (h.0 a)), λ c. h.1 (k.1 c))

-- neither holds where the other does not
pub not_same : {A B : Type 0} → (A ↔ B) → (¬ A) ↔ (¬ B)
not_same h = ((λ n b. n (h.1 b)), λ n a. n (h.0 a))

-- both together
pub two_same : {A B C D : Type 0} → (A ↔ B) → (C ↔ D) → (A × C) ↔ (B × D)
two_same h k = ((λ p. (h.0 p.0, k.0 p.1)), λ p. (h.1 p.0, k.1 p.1))
