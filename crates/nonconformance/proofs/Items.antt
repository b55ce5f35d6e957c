-- Those items of a list that have a property.
use Rattle.std.proofs.Common.{◌≡◌, ◌∙◌, ap, inl, inr, refl, sym, subst, List, [], ◌∷◌, ◌++◌}
use Rattle.std.specs.Prelude.{◌↔◌, Contains}
use Rattle.lists.proofs.Decided.{Decided}
use Rattle.lists.proofs.Members.{in_rest, is_first, is_later, not_in_none}
use Rattle.nonconformance.specs.Those.{AreThose}

-- an item that does not have the property is passed over
pub passed : {X : Type 0} (P : X → Type 0) (x : X) (xs found : List X) → ¬ P x → AreThose P xs found → AreThose P (x ∷ xs) found
passed P x xs [] none those = (none, those)
passed P x xs (y ∷ found) none those = inr (none, those)

-- each that is found is there, and has it
pub those_have : {X : Type 0} (P : X → Type 0) (xs found : List X) → AreThose P xs found → (x : X) → Contains found x → Contains xs x × P x
those_have P [] found those x c = absurd (not_in_none x (subst (λ z. Contains z x) those c))
those_have P (y ∷ ys) [] those x c = absurd (not_in_none x c)
those_have P (y ∷ ys) (z ∷ found) (inl (same, has, those)) x c = elim (in_rest z found x c) [
  | inl e ↦ subst (λ w. Contains (y ∷ ys) w × P w) e (subst (λ w. Contains (y ∷ ys) w × P w) same (is_first y ys, has))
  | inr later ↦ (let (there, h) = those_have P ys found those x later in (is_later y ys x there, h))
]
those_have P (y ∷ ys) (z ∷ found) (inr (none, those)) x c =
    let (there, h) = those_have P ys (z ∷ found) those x c in (is_later y ys x there, h)

-- and each that is there and has it is found
pub have_those : {X : Type 0} (P : X → Type 0) (xs found : List X) → AreThose P xs found → (x : X) → Contains xs x → P x → Contains found x
have_those P [] found those x c h = absurd (not_in_none x c)
have_those P (y ∷ ys) [] (none, those) x c h = elim (in_rest y ys x c) [
  | inl e ↦ absurd (none (subst P (sym e) h))
  | inr later ↦ have_those P ys [] those x later h
]
have_those P (y ∷ ys) (z ∷ found) (inl (same, has, those)) x c h = elim (in_rest y ys x c) [
  | inl e ↦ subst (λ w. Contains (z ∷ found) w) e (subst (λ w. Contains (w ∷ found) y) same (is_first y found))
  | inr later ↦ is_later z found x (have_those P ys found those x later h)
]
have_those P (y ∷ ys) (z ∷ found) (inr (none, those)) x c h = elim (in_rest y ys x c) [
  | inl e ↦ absurd (none (subst P (sym e) h))
  | inr later ↦ have_those P ys (z ∷ found) those x later h
]

-- one more item that has it, and one that does not
pub those_more : {X : Type 0} (P : X → Type 0) (xs found : List X) (x : X) → AreThose P xs found → P x → AreThose P (xs ++ x ∷ []) (found ++ x ∷ [])
those_more P [] [] x those h = inl (refl, h, refl)
those_more P [] (y ∷ found) x those h = absurd cc
those_more P (y ∷ ys) [] x (none, those) h = passed P y (ys ++ x ∷ []) (x ∷ []) none (those_more P ys [] x those h)
those_more P (y ∷ ys) (z ∷ found) x (inl (same, has, those)) h = inl (same, has, those_more P ys found x those h)
those_more P (y ∷ ys) (z ∷ found) x (inr (none, those)) h = inr (none, those_more P ys (z ∷ found) x those h)

pub those_same : {X : Type 0} (P : X → Type 0) (xs found : List X) (x : X) → AreThose P xs found → ¬ P x → AreThose P (xs ++ x ∷ []) found
those_same P [] [] x those h = (h, refl)
those_same P [] (y ∷ found) x those h = absurd cc
those_same P (y ∷ ys) [] x (none, those) h = (none, those_same P ys [] x those h)
those_same P (y ∷ ys) (z ∷ found) x (inl (same, has, those)) h = inl (same, has, those_same P ys found x those h)
those_same P (y ∷ ys) (z ∷ found) x (inr (none, those)) h = inr (none, those_same P ys (z ∷ found) x those h)

-- two properties that say the same of each item find the same items
pub those_alike : {X : Type 0} (P Q : X → Type 0) (xs found : List X) → ((x : X) → Contains xs x → P x ↔ Q x) → AreThose P xs found → AreThose Q xs found
those_alike P Q [] found same those = those
those_alike P Q (x ∷ xs) [] same (none, those) =
    ((λ q. none ((same x (is_first x xs)).1 q)), those_alike P Q xs [] (λ y c. same y (is_later x xs y c)) those)
those_alike P Q (x ∷ xs) (y ∷ found) same (inl (is, has, those)) =
    inl (is, (same x (is_first x xs)).0 has, those_alike P Q xs found (λ z c. same z (is_later x xs z c)) those)
those_alike P Q (x ∷ xs) (y ∷ found) same (inr (none, those)) =
    inr ((λ q. none ((same x (is_first x xs)).1 q)), those_alike P Q xs (y ∷ found) (λ z c. same z (is_later x xs z c)) those)

-- there is one list of those items that have a property
pub those_one : {X : Type 0} (P : X → Type 0) (xs these found : List X) → AreThose P xs these → AreThose P xs found → these ≡ found
those_one P [] these found a b = a ∙ sym b
those_one P (x ∷ xs) [] [] a b = refl
those_one P (x ∷ xs) [] (y ∷ found) (none, a) (inl (same, has, b)) = absurd (none has)
those_one P (x ∷ xs) [] (y ∷ found) (none, a) (inr (nor, b)) = those_one P xs [] (y ∷ found) a b
those_one P (x ∷ xs) (z ∷ these) [] (inl (same, has, a)) (none, b) = absurd (none has)
those_one P (x ∷ xs) (z ∷ these) [] (inr (nor, a)) (none, b) = those_one P xs (z ∷ these) [] a b
those_one P (x ∷ xs) (z ∷ these) (y ∷ found) (inl (same, has, a)) (inl (e, is, b)) =
    ap (λ w. w ∷ these) (sym same ∙ e) ∙ ap (λ ws. y ∷ ws) (those_one P xs these found a b)
those_one P (x ∷ xs) (z ∷ these) (y ∷ found) (inl (same, has, a)) (inr (none, b)) = absurd (none has)
those_one P (x ∷ xs) (z ∷ these) (y ∷ found) (inr (none, a)) (inl (e, is, b)) = absurd (none is)
those_one P (x ∷ xs) (z ∷ these) (y ∷ found) (inr (none, a)) (inr (nor, b)) = those_one P xs (z ∷ these) (y ∷ found) a b

-- there is a list of those items that have a property, where the property is decided
pub those_exist : {X : Type 0} (P : X → Type 0) → ((x : X) → Decided (P x)) → (xs : List X) → (found : List X) × AreThose P xs found
those_exist P d [] = ([], refl)
those_exist {X = X} P d (x ∷ xs) = go (d x) (those_exist P d xs)
  where
    go : Decided (P x) → ((found : List X) × AreThose P xs found) → (found : List X) × AreThose P (x ∷ xs) found
    go (inl has) (found, those) = (x ∷ found, inl (refl, has, those))
    go (inr none) (found, those) = (found, passed P x xs found none those)
