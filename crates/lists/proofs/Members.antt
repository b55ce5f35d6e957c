-- Membership: in short lists, images and joined lists, and of what is read at a place.
use Rattle.std.proofs.Common.{append_assoc, add-one, ◌≡◌, zero, suc, ◌⊎◌, inl, inr, List, [], ◌∷◌, refl, arith, sym, subst, ap, ◌∙◌, map, Bool, true, false, ℕ, ◌<◌, ◌++◌, length, ◌+◌, take, get_or, ◌-◌, drop}
use Rattle.std.proofs.lemmas.Bool.{eqb-true}
use Rattle.std.proofs.lemmas.List.{nil_from_length}
use Rattle.std.proofs.Math.Seq.{drop-cons, take-length}
use Rattle.std.specs.Prelude.{Contains, Some, slice_get, ◌||◌, ◌==◌}
use Rattle.std.proofs.lemmas.Option.{slice_get_within, slice_get-get_or, get_or_from_slice_get}
use Rattle.std.specs.List.{flat_map, list_any}
use Rattle.std.proofs.lemmas.List.Elements.{Contains-append_left, Contains-append_right, Contains-append_cases}

-- a list that is as long as none has no item
pub no_items : {X : Type 0} (xs ys : List X) → xs ≡ ys → true ≡ (length xs == 0) → ys ≡ []
no_items xs ys same e = sym same ∙ nil_from_length xs (eqb-true (length xs) 0 (sym e))

-- the empty list has no item
pub not_in_none : {X : Type 0} (x : X) → ¬ Contains [] x
not_in_none x c = absurd (omega (arith, c.1))

-- a list of one item has that item only
pub in_one : {X : Type 0} (y x : X) → Contains (y ∷ []) x → y ≡ x
in_one y x (zero, h, e) = e
in_one y x (suc k, h, e) = absurd (omega arith)

-- an item is the first or a later one
pub in_rest : {X : Type 0} (y : X) (ys : List X) (x : X) → Contains (y ∷ ys) x → (y ≡ x) ⊎ Contains ys x
in_rest y ys x (zero, h, e) = inl e
in_rest y ys x (suc k, h, e) = inr (k, omega arith, e)

-- the first item is one of the list
pub is_first : {X : Type 0} (x : X) (ys : List X) → Contains (x ∷ ys) x
is_first x ys = (0, omega arith, refl)

-- each later item is one of the list
pub is_later : {X : Type 0} (y : X) (ys : List X) (x : X) → Contains ys x → Contains (y ∷ ys) x
is_later y ys x (k, h, e) = (suc k, omega arith, e)

-- the image of an item is one of the images
pub in_map : {A B : Type 0} (f : A → B) (xs : List A) (x : A) → Contains xs x → Contains (map f xs) (f x)
in_map f [] x h = absurd (not_in_none x h)
in_map f (y ∷ ys) x h = elim (in_rest y ys x h) [
  | inl e ↦ subst (λ z. Contains (f y ∷ map f ys) (f z)) e (is_first (f y) (map f ys))
  | inr later ↦ is_later (f y) (map f ys) (f x) (in_map f ys x later)
]

-- each of the images is that of an item
pub from_map : {A B : Type 0} (f : A → B) (xs : List A) (y : B) → Contains (map f xs) y → (x : A) × Contains xs x × (f x ≡ y)
from_map f [] y h = absurd (not_in_none y h)
from_map f (x ∷ xs) y h = go (in_rest (f x) (map f xs) y h) (λ later. from_map f xs y later)
  where
    go : (f x ≡ y) ⊎ Contains (map f xs) y → (Contains (map f xs) y → (z : _) × Contains xs z × (f z ≡ y)) → (z : _) × Contains (x ∷ xs) z × (f z ≡ y)
    go (inl e) deeper = (x, is_first x xs, e)
    go (inr later) deeper = let (z, c, e) = deeper later in (z, is_later x xs z c, e)

-- what an item gives is among what all give
pub in_flat_map :
    {A B : Type 0} (f : A → List B) (xs : List A) (x : A) (y : B) → Contains xs x → Contains (f x) y → Contains (flat_map f xs) y
in_flat_map f [] x y h c = absurd (not_in_none x h)
in_flat_map f (z ∷ zs) x y h c = elim (in_rest z zs x h) [
  | inl e ↦ Contains-append_left (f z) (flat_map f zs) y (subst (λ u. Contains (f u) y) (sym e) c)
  | inr later ↦ Contains-append_right (f z) (flat_map f zs) y (in_flat_map f zs x y later c)
]

-- what all give is given by an item
pub from_flat_map :
    {A B : Type 0} (f : A → List B) (xs : List A) (y : B) → Contains (flat_map f xs) y → (x : A) × Contains xs x × Contains (f x) y
from_flat_map f [] y h = absurd (not_in_none y h)
from_flat_map f (x ∷ xs) y h = go (Contains-append_cases (f x) (flat_map f xs) y h) (λ later. from_flat_map f xs y later)
  where
    go :
        Contains (f x) y ⊎ Contains (flat_map f xs) y → (Contains (flat_map f xs) y → (z : _) × Contains xs z × Contains (f z) y) →
        (z : _) × Contains (x ∷ xs) z × Contains (f z) y
    go (inl here) deeper = (x, is_first x xs, here)
    go (inr later) deeper = let (z, c, d) = deeper later in (z, is_later x xs z c, d)

-- an element read by its place is one of the list
pub got_in : {X : Type 0} (xs : List X) (i : ℕ) (x : X) → slice_get xs i ≡ Some x → Contains xs x
got_in xs i x e = (i, slice_get_within xs i x e, get_or_from_slice_get xs i x x e)

-- what is read at a place is in the list
pub item_there : {X : Type 0} (xs : List X) (i : ℕ) (x : X) → i < length xs → x ≡ get_or xs i x → Contains xs x
item_there [] i x l e = absurd (omega (arith, l))
item_there (y ∷ ys) zero x l e = subst (λ z. Contains (y ∷ ys) z) (sym e) (is_first y ys)
item_there (y ∷ ys) (suc i) x l e = is_later y ys x (item_there ys i x (omega (arith, l)) e)

-- a test that an item passes finds one
pub any_true : {X : Type 0} (p : X → Bool) (xs : List X) (x : X) → Contains xs x → p x ≡ true → list_any p xs ≡ true
any_true p [] x c e = absurd (not_in_none x c)
any_true p (y ∷ ys) x c e = elim (in_rest y ys x c) [
  | inl same ↦ left (p y) (ap p same ∙ e)
  | inr later ↦ right (p y) (any_true p ys x later e)
]
  where
    left : (b : Bool) → b ≡ true → b || list_any p ys ≡ true
    left true e = refl
    left false e = cc

    right : (b : Bool) → list_any p ys ≡ true → b || list_any p ys ≡ true
    right true e = refl
    right false e = e

-- what is left from a place on is the item there and what is left behind it
pub items_left : {X : Type 0} (xs : List X) (k : ℕ) (x : X) → k < length xs → x ≡ get_or xs k x → drop k xs ≡ x ∷ drop (k + 1) xs
items_left xs k x h e = rw add-one (drop-cons xs k x h ∙ ap (λ z. z ∷ drop (suc k) xs) (sym e))

-- all behind the first
pub behind_is : {X : Type 0} (y : X) (ys : List X) → take (length (y ∷ ys) - 1) (drop 1 (y ∷ ys)) ≡ ys
behind_is y ys = let n : length (y ∷ ys) - 1 ≡ length ys = omega arith in ap (λ k. take k ys) n ∙ take-length ys

-- what is behind the first is in the list
pub behind_there : {X : Type 0} (xs : List X) (first x : X) → Some first ≡ slice_get xs 0 → Contains (take (length xs - 1) (drop 1 xs)) x → Contains xs x
behind_there [] first x at h = cc
behind_there (y ∷ ys) first x at h = is_later y ys x (subst (λ zs. Contains zs x) (behind_is y ys) h)

-- what was given of a list, and what is left, when one more is given
pub yields_on : {X : Type 0} (all yielded rest behind : List X) (x : X) → all ≡ yielded ++ rest → rest ≡ x ∷ behind → all ≡ (yielded ++ x ∷ []) ++ behind
yields_on all yielded rest behind x e f = e ∙ ap (λ (v : List _). yielded ++ v) f ∙ sym (append_assoc yielded (x ∷ []) behind)

-- and that item is of the list
pub yields_there : {X : Type 0} (all yielded rest behind : List X) (x : X) → all ≡ yielded ++ rest → rest ≡ x ∷ behind → Contains all x
yields_there all yielded rest behind x e f = subst (λ zs. Contains zs x) (sym e) (Contains-append_right yielded rest x (subst (λ zs. Contains zs x) (sym f) (is_first x behind)))

-- an item has a place
pub place_of : {X : Type 0} (xs : List X) (x : X) → Contains xs x → (i : ℕ) × (slice_get xs i ≡ Some x)
place_of xs x (i, inside, e) = (i, slice_get-get_or xs i x inside ∙ ap (λ y. Some y) e)
