-- Lists that are read one by one.
use Rattle.std.proofs.lemmas.List.{map-append, take_more}
use Rattle.std.proofs.Common.{◌≡◌, ◌∙◌, ℕ, zero, suc, ◌<◌, ◌+◌, ◌⊎◌, ◌++◌, inl, inr, take, List, [], ◌∷◌, refl, sym, ap, subst, length, get_or, map}
use Rattle.std.specs.Prelude.{◌↔◌, Contains, Some, slice_get}
use Rattle.std.specs.List.{AllZip}
use Rattle.agenda.proofs.Growing.{Has}
use Rattle.lists.proofs.Beside.{zip_push}
use Rattle.lists.proofs.Members.{in_one, is_first, not_in_none}

-- what stands at a place of the one stands beside what stands there in the other
pub zip_at : {A B : Type 0} (R : A → B → Type 0) (xs : List A) (ys : List B) → AllZip R xs ys → (i : ℕ) (x : A) (y : B) → slice_get xs i ≡ Some x → slice_get ys i ≡ Some y → R x y
zip_at R [] [] h i x y a b = cc
zip_at R [] (w ∷ ys) h i x y a b = absurd h
zip_at R (z ∷ xs) [] h i x y a b = absurd h
zip_at {A} {B} R (z ∷ xs) (w ∷ ys) h zero x y a b =
    let e : z ≡ x = cc in let f : w ≡ y = cc in subst (λ u. R u y) e (subst (λ u. R z u) f h.0)
zip_at R (z ∷ xs) (w ∷ ys) h (suc i) x y a b = zip_at R xs ys h.1 i x y a b

pub zip_there : {A B : Type 0} (R : A → B → Type 0) (xs : List A) (ys : List B) → AllZip R xs ys → (i : ℕ) (x : A) → slice_get xs i ≡ Some x → (y : B) × (slice_get ys i ≡ Some y)
zip_there R [] [] h i x a = cc
zip_there R [] (w ∷ ys) h i x a = absurd h
zip_there R (z ∷ xs) [] h i x a = absurd h
zip_there R (z ∷ xs) (w ∷ ys) h zero x a = (w, refl)
zip_there R (z ∷ xs) (w ∷ ys) h (suc i) x a = zip_there R xs ys h.1 i x a

pub zip_back : {A B : Type 0} (R : A → B → Type 0) (xs : List A) (ys : List B) → AllZip R xs ys → (i : ℕ) (y : B) → slice_get ys i ≡ Some y → (x : A) × (slice_get xs i ≡ Some x)
zip_back R [] [] h i y a = cc
zip_back R [] (w ∷ ys) h i y a = absurd h
zip_back R (z ∷ xs) [] h i y a = absurd h
zip_back R (z ∷ xs) (w ∷ ys) h zero y a = (z, refl)
zip_back R (z ∷ xs) (w ∷ ys) h (suc i) y a = zip_back R xs ys h.1 i y a

-- ---- members

pub none_more : {X : Type 0} (xs : List X) (q : X) → Contains xs q ↔ (Contains xs q ⊎ Contains [] q)
none_more xs q = (inl, (λ h. elim h [ inl l ↦ l | inr n ↦ absurd (not_in_none q n) ]))

pub one_more : {X : Type 0} (old new : List X) (x q : X) → Contains new q ↔ (Contains old q ⊎ (q ≡ x)) → Contains new q ↔ (Contains old q ⊎ Contains (x ∷ []) q)
one_more old new x q h = (
  (λ c. elim (h.0 c) [ inl l ↦ inl l | inr e ↦ inr (subst (λ z. Contains (x ∷ []) z) (sym e) (is_first x [])) ]),
  (λ c. elim c [ inl l ↦ h.1 (inl l) | inr r ↦ h.1 (inr (sym (in_one x q r))) ]),
)

pub map_next : {X Y : Type 0} (f : X → Y) (xs : List X) (i : ℕ) (d : X) → i < length xs → map f (take (i + 1) xs) ≡ map f (take i xs) ++ f (get_or xs i d) ∷ []
map_next f xs i d inside = ap (map f) (take_more xs i d inside) ∙ map-append f (take i xs) (get_or xs i d ∷ [])

pub zip_next : {A B : Type 0} (R : A → B → Type 0) (xs : List A) (ys : List B) (i : ℕ) (d : A) (y : B) → i < length xs → AllZip R (take i xs) ys →
    R (get_or xs i d) y → AllZip R (take (i + 1) xs) (ys ++ y ∷ [])
zip_next R xs ys i d y inside h r = subst (λ zs. AllZip R zs (ys ++ y ∷ [])) (sym (take_more xs i d inside)) (zip_push R (take i xs) ys (get_or xs i d) y h r)

-- a list that has the items of two others has those of lists that are equal to them
pub has_same : {X : Type 0} (before xs ys now : List X) → xs ≡ ys → Has before xs now → Has before ys now
has_same before xs ys now e h = subst (λ zs. Has before zs now) e h
