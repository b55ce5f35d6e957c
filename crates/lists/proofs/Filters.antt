-- What a filter keeps.
use Rattle.std.proofs.Common.{◌≡◌, ◌⊎◌, inl, inr, List, [], ◌∷◌, refl, sym, subst, ap, ◌∙◌, map, filter, cond, Bool, true, false, true≢false}
use Rattle.std.specs.List.{AllByRecursion}
use Rattle.std.specs.Prelude.{Contains}
use Rattle.lists.proofs.Members.{not_in_none, in_rest, is_first, is_later}

-- an item that passes is kept
pub filter_has : {X : Type 0} (p : X → Bool) (xs : List X) (x : X) → Contains xs x → p x ≡ true → Contains (filter p xs) x
filter_has p [] x h e = absurd (not_in_none x h)
filter_has p (y ∷ ys) x h e = go (p y) refl (λ later. filter_has p ys x later e) (in_rest y ys x h)
  where
    go : (b : Bool) → p y ≡ b → (Contains ys x → Contains (filter p ys) x) → (y ≡ x) ⊎ Contains ys x → Contains (cond b (y ∷ filter p ys) (filter p ys)) x
    go true is deeper (inl same) = subst (λ z. Contains (z ∷ filter p ys) x) (sym same) (is_first x (filter p ys))
    go true is deeper (inr later) = is_later y (filter p ys) x (deeper later)
    go false is deeper (inl same) = absurd (true≢false (sym e ∙ ap p (sym same) ∙ is))
    go false is deeper (inr later) = deeper later

-- what a filter keeps passes its test
pub in_filter : {X : Type 0} (p : X → Bool) (xs : List X) (x : X) → Contains (filter p xs) x → Contains xs x × (p x ≡ true)
in_filter p [] x h = absurd (not_in_none x h)
in_filter p (y ∷ ys) x h = go (λ r. in_filter p ys x r) (p y) refl h
  where
    go :
        (Contains (filter p ys) x → Contains ys x × (p x ≡ true)) →
        (b : Bool) → p y ≡ b → Contains (cond b (y ∷ filter p ys) (filter p ys)) x → Contains (y ∷ ys) x × (p x ≡ true)
    go deeper true e r = elim (in_rest y (filter p ys) x r) [
      | inl same ↦ (subst (λ z. Contains (y ∷ ys) z) same (is_first y ys), subst (λ z. p z ≡ true) same e)
      | inr later ↦ (is_later y ys x (deeper later).0, (deeper later).1)
    ]
    go deeper false e r = (is_later y ys x (deeper r).0, (deeper r).1)

-- a filter that all pass keeps the list
pub filter_all : {X : Type 0} (p : X → Bool) (xs : List X) → ((x : X) → Contains xs x → p x ≡ true) → filter p xs ≡ xs
filter_all p [] h = refl
filter_all p (x ∷ xs) h = rw (h x (is_first x xs), filter_all p xs (λ y c. h y (is_later x xs y c))) refl

-- a filter that none passes keeps nothing
pub filter_none : {X : Type 0} (p : X → Bool) (xs : List X) → ((x : X) → Contains xs x → p x ≡ false) → filter p xs ≡ []
filter_none p [] h = refl
filter_none p (x ∷ xs) h = rw (h x (is_first x xs), filter_none p xs (λ y c. h y (is_later x xs y c))) refl

-- two tests that agree on the items keep the same items
pub filter_same : {X : Type 0} (p q : X → Bool) (xs : List X) → ((x : X) → Contains xs x → p x ≡ q x) → filter p xs ≡ filter q xs
filter_same p q [] h = refl
filter_same p q (y ∷ ys) h =
    ap (λ b. cond b (y ∷ filter p ys) (filter p ys)) (h y (is_first y ys)) ∙ ap (λ zs. cond (q y) (y ∷ zs) zs) (filter_same p q ys (λ x c. h x (is_later y ys x c)))

-- the images that pass are the images of those whose image passes
pub filter_images : {A B : Type 0} (f : A → B) (p : B → Bool) (xs : List A) → map f (filter (λ x. p (f x)) xs) ≡ filter p (map f xs)
filter_images f p [] = refl
filter_images f p (x ∷ xs) = go (p (f x)) (filter_images f p xs)
  where
    go : (b : Bool) → map f (filter (λ x. p (f x)) xs) ≡ filter p (map f xs) →
        map f (cond b (x ∷ filter (λ x. p (f x)) xs) (filter (λ x. p (f x)) xs)) ≡ cond b (f x ∷ filter p (map f xs)) (filter p (map f xs))
    go true e = ap (λ l. f x ∷ l) e
    go false e = e

cons_same : {X : Type 0} {x y : X} {xs ys : List X} → x ≡ y → xs ≡ ys → x ∷ xs ≡ y ∷ ys
cons_same p q = cc

-- two filters may change places
pub filter_comm : {X : Type 0} (p q : X → Bool) (xs : List X) → filter p (filter q xs) ≡ filter q (filter p xs)
filter_comm p q [] = refl
filter_comm p q (x ∷ xs) = by (p x) (q x) refl refl (filter_comm p q xs)
  where
    by : (a b : Bool) → p x ≡ a → q x ≡ b → filter p (filter q xs) ≡ filter q (filter p xs) → filter p (cond b (x ∷ filter q xs) (filter q xs)) ≡ filter q (cond a (x ∷ filter p xs) (filter p xs))
    by true true ea eb h = rw (ea, eb) (cons_same refl h)
    by true false ea eb h = rw eb h
    by false true ea eb h = rw ea h
    by false false ea eb h = h

-- a filter keeps what holds of all
pub all_filter : {X : Type 0} (P : X → Type 0) (test : X → Bool) (xs : List X) → AllByRecursion P xs → AllByRecursion P (filter test xs)
all_filter P test [] h = tt
all_filter P test (x ∷ xs) h = go (test x) (all_filter P test xs h.1)
  where
    go : (b : Bool) → AllByRecursion P (filter test xs) → AllByRecursion P (cond b (x ∷ filter test xs) (filter test xs))
    go true r = (h.0, r)
    go false r = r

-- what passes the test and had P has Q
pub all_passing :
    {X : Type 0} (P Q : X → Type 0) (test : X → Bool) → ((x : X) → test x ≡ true → P x → Q x) → (xs : List X) → AllByRecursion P xs →
    AllByRecursion Q (filter test xs)
all_passing P Q test step [] h = tt
all_passing P Q test step (x ∷ xs) h = go (test x) refl (all_passing P Q test step xs h.1)
  where
    go : (b : Bool) → test x ≡ b → AllByRecursion Q (filter test xs) → AllByRecursion Q (cond b (x ∷ filter test xs) (filter test xs))
    go true e r = (step x e h.0, r)
    go false e r = r
