-- Slices that are gone over, flags that are read, and where circles are.
use Rattle.std.proofs.Common.{◌≡◌, ℕ, zero, suc, ◌+◌, ◌<◌, ◌≤◌, List, [], ◌∷◌, ◌++◌, refl, sym, ap, subst, arith, length, ◌∙◌, get_or, Some, Bool, true, false, take}
use Rattle.std.proofs.lemmas.Option.{slice_get-get_or, slice_get_within}
use Rattle.schema_load.specs.declared.circles.CircleKind.{CircleKind}
use Rattle.schema_load.specs.declared.circles.CircleKind.TheVariants.{Inclusion, Reference}
use Rattle.schema_load.specs.declared.part.Part.{Part}
use Rattle.schema_load.specs.declared.part.Part.TheVariants as Parts
use Rattle.schema_load.specs.Circles.{IsRound}

take_next : (xs : List ℕ) (i : ℕ) → i < length xs → take (suc i) xs ≡ take i xs ++ get_or xs i 0 ∷ []
take_next [] i lt = absurd (omega arith)
take_next (x ∷ xs) zero lt = refl
take_next (x ∷ xs) (suc i) lt = ap (λ us. x ∷ us) (take_next xs i (omega arith))

pub take_more : (xs : List ℕ) (i : ℕ) → i < length xs → take (i + 1) xs ≡ take i xs ++ get_or xs i 0 ∷ []
take_more xs i lt = subst (λ n. take n xs ≡ take i xs ++ get_or xs i 0 ∷ []) (let e : suc i ≡ i + 1 = omega arith in e) (take_next xs i lt)

pub take_whole : (xs : List ℕ) (n : ℕ) → length xs ≤ n → take n xs ≡ xs
take_whole [] zero le = refl
take_whole [] (suc n) le = refl
take_whole (x ∷ xs) zero le = absurd (omega arith)
take_whole (x ∷ xs) (suc n) le = ap (λ us. x ∷ us) (take_whole xs n (omega arith))

-- a flag that was read
pub flag_on : (ms : List Bool) (p : ℕ) (b : Bool) → p < length ms → b ≡ get_or ms p b → b ≡ true → get_or ms p false ≡ true
flag_on ms p b lt read on = let both : Some (get_or ms p b) ≡ Some (get_or ms p false) = sym (slice_get-get_or ms p b lt) ∙ slice_get-get_or ms p false lt in cc

-- circles are at places of parts
pub round_within : (parts : List Part) (kind : CircleKind) (p : ℕ) → IsRound parts kind p → p < length parts
round_within parts Reference p (l, (at, round)) = slice_get_within parts p (Parts.Declares l) at
round_within parts Inclusion p (l, ((t, at, e), round)) = slice_get_within parts p (Parts.Triple t) at
