-- What holds of all or some items.
use Rattle.std.proofs.Common.{inl, inr, List, [], ◌∷◌, subst, map, ◌++◌}
use Rattle.std.specs.List.{AllByRecursion}
use Rattle.std.specs.Prelude.{Contains, ◌↔◌}
use Rattle.std.specs.List.Sorted.{IsPermutation}
use Rattle.std.proofs.lemmas.List.Sorted.{All-permutation}
use Rattle.std.proofs.lemmas.List.Elements.{recursion_from_All, All-from_recursion}
use Rattle.lists.specs.Quantifiers.{SomeByRecursion}
use Rattle.lists.proofs.Members.{not_in_none, in_rest, is_first, is_later}

-- what holds of all items holds of each
pub all_at : {X : Type 0} (P : X → Type 0) (xs : List X) (x : X) → AllByRecursion P xs → Contains xs x → P x
all_at P [] x h c = absurd (not_in_none x c)
all_at P (y ∷ ys) x h c = elim (in_rest y ys x c) [
  | inl e ↦ subst P e h.0
  | inr later ↦ all_at P ys x h.1 later
]

-- what holds of each item holds of all
pub all_of : {X : Type 0} (P : X → Type 0) (xs : List X) → ((x : X) → Contains xs x → P x) → AllByRecursion P xs
all_of P [] h = tt
all_of P (x ∷ xs) h = (h x (is_first x xs), all_of P xs (λ y c. h y (is_later x xs y c)))

-- what follows at each element follows of all
pub all_weaker :
    {X : Type 0} (P Q : X → Type 0) (xs : List X) → ((x : X) → Contains xs x → P x → Q x) → AllByRecursion P xs → AllByRecursion Q xs
all_weaker P Q [] step h = tt
all_weaker P Q (x ∷ xs) step h = (step x (is_first x xs) h.0, all_weaker P Q xs (λ y c. step y (is_later x xs y c)) h.1)

-- what follows at each element follows of some
pub some_weaker :
    {X : Type 0} (P Q : X → Type 0) (xs : List X) → ((x : X) → Contains xs x → P x → Q x) → SomeByRecursion P xs → SomeByRecursion Q xs
some_weaker P Q [] step h = absurd h
some_weaker P Q (x ∷ xs) step (inl h) = inl (step x (is_first x xs) h)
some_weaker P Q (x ∷ xs) step (inr h) = inr (some_weaker P Q xs (λ y c. step y (is_later x xs y c)) h)

-- of two facts that hold of the same items, both hold of all or neither does
pub all_same :
    {X : Type 0} (P Q : X → Type 0) (xs : List X) → ((x : X) → Contains xs x → P x ↔ Q x) → AllByRecursion P xs ↔ AllByRecursion Q xs
all_same P Q xs h = (all_weaker P Q xs (λ x c. (h x c).0), all_weaker Q P xs (λ x c. (h x c).1))

-- and both hold of some or neither does
pub some_same :
    {X : Type 0} (P Q : X → Type 0) (xs : List X) → ((x : X) → Contains xs x → P x ↔ Q x) → SomeByRecursion P xs ↔ SomeByRecursion Q xs
some_same P Q xs h = (some_weaker P Q xs (λ x c. (h x c).0), some_weaker Q P xs (λ x c. (h x c).1))

-- one that has P is against all that have Q, where P is against Q
pub some_against : {X : Type 0} (P Q : X → Type 0) → ((x : X) → P x → ¬ Q x) → (xs : List X) → SomeByRecursion P xs → ¬ AllByRecursion Q xs
some_against P Q against [] h all = h
some_against P Q against (x ∷ xs) (inl h) all = against x h all.0
some_against P Q against (x ∷ xs) (inr h) all = some_against P Q against xs h all.1

-- what holds of all of two lists holds of all of both together
pub all_append : {X : Type 0} (P : X → Type 0) (xs ys : List X) → AllByRecursion P xs → AllByRecursion P ys → AllByRecursion P (xs ++ ys)
all_append P [] ys h t = t
all_append P (x ∷ xs) ys h t = (h.0, all_append P xs ys h.1 t)

-- what holds of all of both together holds of all of the first
pub all_front : {X : Type 0} (P : X → Type 0) (xs ys : List X) → AllByRecursion P (xs ++ ys) → AllByRecursion P xs
all_front P [] ys h = tt
all_front P (x ∷ xs) ys (h, hs) = (h, all_front P xs ys hs)

-- and of all of the second
pub all_back : {X : Type 0} (P : X → Type 0) (xs ys : List X) → AllByRecursion P (xs ++ ys) → AllByRecursion P ys
all_back P [] ys h = h
all_back P (x ∷ xs) ys (h, hs) = all_back P xs ys hs

-- what holds of each image holds of all images
pub all_mapped : {X Y : Type 0} (P : Y → Type 0) (g : X → Y) (xs : List X) → AllByRecursion (λ x. P (g x)) xs → AllByRecursion P (map g xs)
all_mapped P g [] h = tt
all_mapped P g (x ∷ xs) (h, hs) = (h, all_mapped P g xs hs)

-- what follows for images from what holds of the items
pub all_map :
    {X Y : Type 0} (P : X → Type 0) (Q : Y → Type 0) (f : X → Y) → ((x : X) → P x → Q (f x)) → (xs : List X) → AllByRecursion P xs →
    AllByRecursion Q (map f xs)
all_map P Q f step [] h = tt
all_map P Q f step (x ∷ xs) h = (step x h.0, all_map P Q f step xs h.1)

-- two facts of all are both of all
pub all_both :
    {X : Type 0} (P Q : X → Type 0) (xs : List X) → AllByRecursion P xs → AllByRecursion Q xs → AllByRecursion (λ x. P x × Q x) xs
all_both P Q [] h t = tt
all_both P Q (x ∷ xs) h t = ((h.0, t.0), all_both P Q xs h.1 t.1)

-- what holds of all holds of all in another order
pub all_permuted : {X : Type 0} (P : X → Type 0) (xs ys : List X) → IsPermutation xs ys → AllByRecursion P xs → AllByRecursion P ys
all_permuted P xs ys perm h = recursion_from_All P ys (All-permutation P xs ys perm (All-from_recursion P xs h))
