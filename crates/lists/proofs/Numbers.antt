-- The numbers below a bound, as a list.
use Rattle.std.proofs.Common.{ℕ, zero, suc, ◌<◌, inl, inr, List, [], ◌∷◌, arith, subst}
use Rattle.std.proofs.lemmas.Bool.{cases_eq}
use Rattle.std.specs.Prelude.{Contains}
use Rattle.lists.proofs.Members.{not_in_none, in_rest, is_first, is_later}

-- the numbers below k
abbrev pub upto : ℕ → List ℕ
upto zero = []
upto (suc k) = k ∷ upto k

-- each number below k is one of them
pub in_upto : (k i : ℕ) → i < k → Contains (upto k) i
in_upto zero i h = absurd (omega arith)
in_upto (suc k) i h = elim (cases_eq k i) [
  | inl e ↦ subst (λ j. Contains (k ∷ upto k) j) e (is_first k (upto k))
  | inr ne ↦ is_later k (upto k) i (in_upto k i (omega arith))
]

-- and there are no others
pub from_upto : (k i : ℕ) → Contains (upto k) i → i < k
from_upto zero i h = absurd (not_in_none i h)
from_upto (suc k) i h = elim (in_rest k (upto k) i h) [
  | inl e ↦ omega arith
  | inr later ↦ (let lt = from_upto k i later in omega arith)
]
