-- Lists side by side.
use Rattle.std.proofs.lemmas.List.{take_more}
use Rattle.std.proofs.Common.{◌≡◌, ℕ, ◌<◌, ◌+◌, ◌++◌, take, List, [], ◌∷◌, sym, ◌∙◌, ap, subst, refl, suc, length, get_or, inl, inr}
use Rattle.std.specs.Prelude.{Contains}
use Rattle.std.specs.List.{AllZip}
use Rattle.lists.proofs.Members.{not_in_none, in_rest, is_first, is_later}

-- items side by side: each of the one list has one beside it
pub beside : {A B : Type 0} (R : A → B → Type 0) (xs : List A) (ys : List B) → AllZip R xs ys → (x : A) → Contains xs x → (y : B) × Contains ys y × R x y
beside R [] [] h x c = absurd (not_in_none x c)
beside R [] (y ∷ ys) h x c = absurd h
beside R (z ∷ xs) [] h x c = absurd h
beside R (z ∷ xs) (y ∷ ys) h x c = elim (in_rest z xs x c) [
  | inl e ↦ (y, is_first y ys, subst (λ w. R w y) e h.0)
  | inr later ↦ (let (w, d, r) = beside R xs ys h.1 x later in (w, is_later y ys w d, r))
]

-- items side by side: each of the other list has one of the first beside it
pub beside_back : {A B : Type 0} (R : A → B → Type 0) (xs : List A) (ys : List B) → AllZip R xs ys → (y : B) → Contains ys y → (x : A) × Contains xs x × R x y
beside_back R [] [] h y c = absurd (not_in_none y c)
beside_back R [] (z ∷ ys) h y c = absurd h
beside_back R (x ∷ xs) [] h y c = absurd h
beside_back R (x ∷ xs) (z ∷ ys) h y c = elim (in_rest z ys y c) [
  | inl e ↦ (x, is_first x xs, subst (λ w. R x w) e h.0)
  | inr later ↦ (let (w, d, r) = beside_back R xs ys h.1 y later in (w, is_later x xs w d, r))
]

-- what follows of items side by side
pub zip_weaker : {A B : Type 0} (R Q : A → B → Type 0) (xs : List A) (ys : List B) → ((x : A) (y : B) → Contains xs x → Contains ys y → R x y → Q x y) → AllZip R xs ys → AllZip Q xs ys
zip_weaker R Q [] [] step h = tt
zip_weaker R Q [] (y ∷ ys) step h = absurd h
zip_weaker R Q (x ∷ xs) [] step h = absurd h
zip_weaker R Q (x ∷ xs) (y ∷ ys) step h = (step x y (is_first x xs) (is_first y ys) h.0, zip_weaker R Q xs ys (λ a b c d r. step a b (is_later x xs a c) (is_later y ys b d) r) h.1)

-- one more item on each side
pub zip_push : {A B : Type 0} (R : A → B → Type 0) (xs : List A) (ys : List B) (x : A) (y : B) → AllZip R xs ys → R x y → AllZip R (xs ++ x ∷ []) (ys ++ y ∷ [])
zip_push R [] [] x y h r = (r, tt)
zip_push R [] (z ∷ ys) x y h r = absurd h
zip_push R (z ∷ xs) [] x y h r = absurd h
zip_push R (z ∷ xs) (w ∷ ys) x y h r = (h.0, zip_push R xs ys x y h.1 r)

-- one more item is read of the one list, and one is put last on the other
pub zip_more : {A B : Type 0} (R : A → B → Type 0) (xs : List A) (ys : List B) (i : ℕ) (x : A) (y : B) → i < length xs → x ≡ get_or xs i x →
    AllZip R (take i xs) ys → R x y → AllZip R (take (i + 1) xs) (ys ++ y ∷ [])
zip_more R xs ys i x y inside read h r =
    subst (λ zs. AllZip R zs (ys ++ y ∷ [])) (sym (take_more xs i x inside ∙ ap (λ z. take i xs ++ z ∷ []) (sym read))) (zip_push R (take i xs) ys x y h r)

-- one more beside one more that is read
pub zip_on : {A B : Type 0} (R : A → B → Type 0) (xs : List A) (ys more : List B) (i : ℕ) (d : A) (y : B) → i < length xs → AllZip R (take i xs) ys →
    R (get_or xs i d) y → more ≡ ys ++ y ∷ [] → AllZip R (take (i + 1) xs) more
zip_on R xs ys more i d y inside h r pushed =
    subst (λ zs. AllZip R (take (i + 1) xs) zs) (sym pushed) (subst (λ zs. AllZip R zs (ys ++ y ∷ [])) (sym (take_more xs i d inside)) (zip_push R (take i xs) ys (get_or xs i d) y h r))

-- lists side by side are as long as one another
pub same_length : {X Y : Type 0} (R : X → Y → Type 0) (xs : List X) (ys : List Y) → AllZip R xs ys → length xs ≡ length ys
same_length R [] [] are = refl
same_length R [] (y ∷ ys) are = absurd are
same_length R (x ∷ xs) [] are = absurd are
same_length R (x ∷ xs) (y ∷ ys) are = ap suc (same_length R xs ys are.1)
