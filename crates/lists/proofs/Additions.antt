-- What additions lead to.
use Rattle.std.proofs.Common.{◌≡◌, ℕ, zero, suc, ◌≤◌, List, [], ◌∷◌, ◌++◌, length, Some, refl, sym, ap, subst, ◌∙◌, arith, append_assoc, ◌⊎◌, inl, inr, Contains, length-append, ◌+◌}
use Rattle.std.specs.Prelude.{slice_get}
use Rattle.std.proofs.lemmas.List.{append-nil}
use Rattle.std.proofs.lemmas.List.Elements.{Contains-append_left, Contains-append_right}
use Rattle.lists.proofs.Members.{got_in, not_in_none, in_rest, is_first}
use Rattle.lists.specs.Additions.{Adds, AddsAll, none, more}
use Rattle.lists.specs.Distinct.{AreDistinct}

module _ {X : Type 0} where
  pub adds_one : (old a b : List X) (x : X) → Adds old x a → Adds old x b → a ≡ b
  adds_one old a b x (inl (c, e)) (inl (d, f)) = e ∙ sym f
  adds_one old a b x (inl (c, e)) (inr (d, f)) = absurd (d c)
  adds_one old a b x (inr (c, e)) (inl (d, f)) = absurd (c d)
  adds_one old a b x (inr (c, e)) (inr (d, f)) = e ∙ sym f

  pub adds_grows : (old new : List X) (x : X) → Adds old x new → (behind : List X) × (new ≡ old ++ behind)
  adds_grows old new x (inl (c, e)) = ([], e ∙ sym (append-nil old))
  adds_grows old new x (inr (c, e)) = (x ∷ [], e)

  pub grown_on : (old mid new : List X) → ((behind : List X) × (mid ≡ old ++ behind)) → ((behind : List X) × (new ≡ mid ++ behind)) → (behind : List X) × (new ≡ old ++ behind)
  grown_on old mid new (a, e) (b, f) = (a ++ b, f ∙ ap (λ (v : List X). v ++ b) e ∙ append_assoc old a b)

  pub all_grow : (old new xs : List X) → AddsAll old xs new → (behind : List X) × (new ≡ old ++ behind)
  all_grow old new xs none = ([], sym (append-nil old))
  all_grow old new xs (more {mid = mid} {xs = ys} {x = x} a rest) = grown_on old mid new (adds_grows old mid x a) (all_grow mid new ys rest)

  -- the same list, written in two ways
  all_ones : (old a b xs ys : List X) → xs ≡ ys → AddsAll old xs a → AddsAll old ys b → a ≡ b
  all_ones old a b xs ys e none none = refl
  all_ones old a b xs ys e none (more h k) = absurd cc
  all_ones old a b xs ys e (more h k) none = absurd cc
  all_ones old a b xs ys e (more {mid = m} {xs = us} {x = x} h rest) (more {mid = l} {xs = vs} {x = y} k other) =
      let p = parts x y us vs e in
      let same : m ≡ l = adds_one old m l y (subst (λ (z : X). Adds old z m) p.0 h) k in
      all_ones l a b us vs p.1 (subst (λ (z : List X). AddsAll z us a) same rest) other
    where
      parts : (x y : X) (us vs : List X) → x ∷ us ≡ y ∷ vs → (x ≡ y) × (us ≡ vs)
      parts x y us vs e = (cc, cc)

  pub all_one : (old a b xs : List X) → AddsAll old xs a → AddsAll old xs b → a ≡ b
  all_one old a b xs h k = all_ones old a b xs xs refl h k

  -- distinct items stay so
  get_old : (xs ys : List X) (i : ℕ) (x : X) → slice_get xs i ≡ Some x → slice_get (xs ++ ys) i ≡ Some x
  get_old [] ys i x e = absurd cc
  get_old (z ∷ zs) ys zero x e = e
  get_old (z ∷ zs) ys (suc i) x e = get_old zs ys i x e

  get_cases : (xs : List X) (y : X) (i : ℕ) (x : X) → slice_get (xs ++ y ∷ []) i ≡ Some x → (slice_get xs i ≡ Some x) ⊎ ((i ≡ length xs) × (y ≡ x))
  get_cases [] y zero x e = inr (refl, cc)
  get_cases [] y (suc i) x e = absurd cc
  get_cases (z ∷ zs) y zero x e = inl e
  get_cases (z ∷ zs) y (suc i) x e = by (get_cases zs y i x e)
    where
      by : (slice_get zs i ≡ Some x) ⊎ ((i ≡ length zs) × (y ≡ x)) → (slice_get (z ∷ zs) (suc i) ≡ Some x) ⊎ ((suc i ≡ length (z ∷ zs)) × (y ≡ x))
      by (inl h) = inl h
      by (inr (n, h)) = inr (omega arith, h)

  pub adds_distinct : (old new : List X) (x : X) → AreDistinct old → Adds old x new → AreDistinct new
  adds_distinct old new x d (inl (c, e)) = subst AreDistinct (sym e) d
  adds_distinct old new x d (inr (c, e)) = subst AreDistinct (sym e) (λ i j y h k. by i j y (get_cases old x i y h) (get_cases old x j y k))
    where
      by : (i j : ℕ) (y : X) → (slice_get old i ≡ Some y) ⊎ ((i ≡ length old) × (x ≡ y)) → (slice_get old j ≡ Some y) ⊎ ((j ≡ length old) × (x ≡ y)) → i ≡ j
      by i j y (inl h) (inl k) = d i j y h k
      by i j y (inl h) (inr (n, k)) = absurd (c (got_in old i x (h ∙ ap (λ (z : X). Some z) (sym k))))
      by i j y (inr (n, h)) (inl k) = absurd (c (got_in old j x (k ∙ ap (λ (z : X). Some z) (sym h))))
      by i j y (inr (n, h)) (inr (l, k)) = n ∙ sym l

  pub all_distinct : (old new xs : List X) → AreDistinct old → AddsAll old xs new → AreDistinct new
  all_distinct old new xs d none = d
  all_distinct old new xs d (more {mid = mid} {xs = ys} {x = x} a rest) = all_distinct mid new ys (adds_distinct old mid x d a) rest

-- a list is no longer than what it grew to
pub no_longer : {X : Type 0} (old new : List X) → ((behind : List X) × (new ≡ old ++ behind)) → length old ≤ length new
no_longer old new (behind, e) = let l = length-append old behind in let k = ap length e in omega arith

-- one item after the other, taken apart
pub all_parts : {X : Type 0} (old new xs : List X) (x : X) → AddsAll old (x ∷ xs) new → (mid : List X) × Adds old x mid × AddsAll mid xs new
all_parts old new xs x (more {mid = mid} a rest) = (mid, a, rest)

-- an addition less, of a list whose first item was added
pub all_behind : {X : Type 0} (old mid new xs : List X) (x : X) → Adds old x mid → AddsAll old (x ∷ xs) new → AddsAll mid xs new
all_behind old mid new xs x a all = let (m, b, rest) = all_parts old new xs x all in subst (λ (v : List _). AddsAll v xs new) (adds_one old m mid x b a) rest

-- where the first item finds no room, no list that has all of them is within the limit
pub first_fills : {X : Type 0} (limit : ℕ) (old new xs : List X) (x : X) → ((¬ Contains old x) × (length old ≡ limit)) → AddsAll old (x ∷ xs) new → ¬ (length new ≤ limit)
first_fills limit old new xs x (c, n) all le = by (all_parts old new xs x all)
  where
    by : ((mid : List _) × Adds old x mid × AddsAll mid xs new) → ⊥
    by (mid, inl (d, e), rest) = c d
    by (mid, inr (d, e), rest) =
        let l = length-append old (x ∷ []) in
        let k = ap length e in
        let grow = no_longer mid new (all_grow mid new xs rest) in
        absurd (omega arith)

-- an item keeps its place
pub kept_at : {X : Type 0} (old new : List X) (i : ℕ) (x : X) → ((behind : List X) × (new ≡ old ++ behind)) → slice_get old i ≡ Some x → slice_get new i ≡ Some x
kept_at old new i x (behind, e) at = ap (λ (v : List _). slice_get v i) e ∙ get_old old behind i x at

-- each item of the second list is in the first
abbrev pub AreHeld : {X : Type 0} → List X → List X → Type 0
AreHeld old [] = Unit {0}
AreHeld old (x ∷ xs) = Contains old x × AreHeld old xs

-- a list stays where it holds all items already
pub held_stays : {X : Type 0} (old new xs : List X) → AreHeld old xs → AddsAll old xs new → new ≡ old
held_stays old new xs held none = refl
held_stays old new xs held (more {mid = mid} {xs = ys} {x = x} (inl (h, e)) rest) = held_stays mid new ys (subst (λ z. AreHeld z ys) (sym e) held.1) rest ∙ e
held_stays old new xs held (more {mid = mid} {xs = ys} {x = x} (inr (fresh, e)) rest) = absurd (fresh held.0)

-- an addition makes a list longer by one at most
pub add_few : {X : Type 0} (old new : List X) (x : X) → Adds old x new → length new ≤ length old + 1
add_few old new x (inl (held, e)) = let n = ap length e in omega (arith, n)
add_few old new x (inr (fresh, e)) = let n = ap length e in let m = length-append old (x ∷ []) in omega (arith, n, m)

-- additions make a list longer by their number at most
pub all_few : {X : Type 0} (old new xs : List X) → AddsAll old xs new → length new ≤ length old + length xs
all_few old new xs none = omega arith
all_few old new xs (more {mid = mid} {xs = ys} {x = x} a others) = let n = add_few old mid x a in let m = all_few mid new ys others in omega (arith, n, m)

-- what was added is held
pub holds_added : {X : Type 0} (old new : List X) (x : X) → Adds old x new → Contains new x
holds_added old new x (inl (held, e)) = subst (λ v. Contains v x) (sym e) held
holds_added old new x (inr (fresh, e)) = subst (λ v. Contains v x) (sym e) (Contains-append_right old (x ∷ []) x (is_first x []))

-- what was held stays so
pub keeps_added : {X : Type 0} (old new : List X) (x y : X) → Adds old x new → Contains old y → Contains new y
keeps_added old new x y (inl (held, e)) h = subst (λ v. Contains v y) (sym e) h
keeps_added old new x y (inr (fresh, e)) h = subst (λ v. Contains v y) (sym e) (Contains-append_left old (x ∷ []) y h)

-- what was held stays so over all additions
pub all_keep : {X : Type 0} (old new xs : List X) (y : X) → AddsAll old xs new → Contains old y → Contains new y
all_keep old new xs y none h = h
all_keep old new xs y (more {mid = mid} {xs = ys} {x = x} a rest) h = all_keep mid new ys y rest (keeps_added old mid x y a h)

-- each item that was added is held
pub all_held : {X : Type 0} (old new xs : List X) (y : X) → AddsAll old xs new → Contains xs y → Contains new y
all_held old new xs y none h = absurd (not_in_none y h)
all_held old new xs y (more {mid = mid} {xs = ys} {x = x} a rest) h = elim (in_rest x ys y h) [
  | inl e ↦ all_keep mid new ys y rest (subst (λ z. Contains mid z) e (holds_added old mid x a))
  | inr later ↦ all_held mid new ys y rest later
]

-- one more addition behind the others
pub one_more : {X : Type 0} (old mid new xs : List X) (x : X) → AddsAll old xs mid → Adds mid x new → AddsAll old (xs ++ x ∷ []) new
one_more old mid new xs x none a = more a none
one_more old mid new xs x (more {mid = m} {xs = ys} b rest) a = more b (one_more m mid new ys x rest a)

-- what additions grew to goes on from the old list
pub grown_same : {X : Type 0} (old mid new xs : List X) → AddsAll old xs mid → new ≡ mid → (behind : List X) × (new ≡ old ++ behind)
grown_same old mid new xs h same = let (behind, e) = all_grow old mid xs h in (behind, same ∙ e)

-- some terms, and behind them others
pub all_split : {X : Type 0} (old new xs ys : List X) → AddsAll old (xs ++ ys) new → (mid : List X) × AddsAll old xs mid × AddsAll mid ys new
all_split old new [] ys h = (old, none, h)
all_split old new (x ∷ xs) ys h =
    let (m, a, rest) = all_parts old new (xs ++ ys) x h in
    let (mid, front, back) = all_split m new xs ys rest in
    (mid, more a front, back)

-- a list goes on from itself
pub stays : {X : Type 0} (a : List X) → (m : List X) × (a ≡ a ++ m)
stays a = ([], sym (append-nil a))
