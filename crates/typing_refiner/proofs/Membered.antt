-- The open pairs of each stratum are told in one pass.
use Rattle.std.proofs.Common.{◌≡◌, ◌∙◌, ℕ, ◌<◌, ◌+◌, ◌⊎◌, inl, inr, List, arith, sym, ap, subst, get_or, length, map}
use Rattle.std.proofs.lemmas.Bool.{cases_eq}
use Rattle.std.proofs.lemmas.Option.{slice_get-get_or, slice_get-map}
use Rattle.std.specs.Prelude.{◌↔◌, Contains, Some, option_map, slice_get}
use Rattle.typing_refiner.specs.declared.ground.Ground.{Ground}
use Rattle.typing_refiner.specs.Building.{AreEmpty, HasAt}
use Rattle.typing_refiner.specs.Ready.{IsAmong, IsOpen}

abbrev pub IsMoreAt : Ground → List (List ℕ) → ℕ → List (List ℕ) → Type 0
IsMoreAt h old at new = (k i : ℕ) → HasAt new k i ↔ (HasAt old k i ⊎ ((i ≡ at) × IsOpen h k i))

-- a pair that is not open leaves them
pub member_passed : (h : Ground) (old : List (List ℕ)) (at : ℕ) → ((k : ℕ) → ¬ IsOpen h k at) → IsMoreAt h old at old
member_passed h old at none k i = (
  (λ c. inl c),
  (λ c. elim c [
    | inl o ↦ o
    | inr n ↦ absurd (none k (subst (λ z. IsOpen h k z) n.0 n.1))
  ]),
)

-- those below a number
abbrev pub AreMembersBelow : Ground → ℕ → List (List ℕ) → Type 0
AreMembersBelow h at lists = (k i : ℕ) → HasAt lists k i ↔ ((i < at) × IsOpen h k i)

pub members_first : (h : Ground) (lists : List (List ℕ)) → AreEmpty lists → AreMembersBelow h 0 lists
members_first h lists empty k i = ((λ c. absurd (empty k i c)), (λ t. absurd (let l = t.0 in omega (arith, l))))

pub members_next : (h : Ground) (at : ℕ) (old new : List (List ℕ)) → AreMembersBelow h at old → IsMoreAt h old at new → AreMembersBelow h (at + 1) new
members_next h at old new before more k i = (
  (λ c. elim ((more k i).0 c) [
    | inl o ↦ (let (lt, is_open) = (before k i).0 o in ((let l : i < at + 1 = omega (arith, lt) in l), is_open))
    | inr n ↦ (let e = n.0 in ((let l : i < at + 1 = omega (arith, e) in l), n.1))
  ]),
  (λ t. elim (cases_eq i at) [
    | inl e ↦ (more k i).1 (inr (e, t.1))
    | inr ne ↦ (more k i).1 (inl ((before k i).1 ((let lt = t.0 in let l : i < at = omega (arith, lt, ne) in l), t.1)))
  ]),
)

-- the list of a stratum has exactly its open pairs
pub members_at : (h : Ground) (lists : List (List ℕ)) (k : ℕ) (js : List ℕ) → slice_get lists k ≡ Some js → ((j i : ℕ) → HasAt lists j i ↔ IsOpen h j i) → (i : ℕ) → Contains js i ↔ IsOpen h k i
members_at h lists k js is all i = subst (λ o. IsAmong o i ↔ IsOpen h k i) is (all k i)

pub lent_at : {V : Type 0} (f : V → List ℕ) (xs : List V) (at : ℕ) (d : V) (lent : List ℕ) → at < length xs → lent ≡ f (get_or xs at d) → slice_get (map f xs) at ≡ Some lent
lent_at f xs at d lent lt is = slice_get-map f xs at ∙ (ap (option_map f) (slice_get-get_or xs at d lt) ∙ ap (λ z. Some z) (sym is))
