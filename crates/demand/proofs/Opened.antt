-- Which Shapes stand in an expression, by its members.
use Rattle.std.proofs.Common.{◌≡◌, ◌∙◌, ℕ, zero, suc, ◌<◌, ◌⊎◌, inl, inr, List, [], ◌∷◌, Bool, true, false, refl, arith, sym, subst, ap}
use Rattle.std.specs.Prelude.{◌↔◌, Contains, Option, Some, None}
use Rattle.schema_tree.specs.declared.schema.Expr.{Expr}
use Rattle.schema_tree.specs.declared.schema.Expr.TheVariants as Exprs
use Rattle.schema_tree.specs.declared.schema.ExprId.{ExprId}
use Rattle.schema_tree.specs.declared.schema.Schema.{Schema}
use Rattle.schema_tree.specs.declared.schema.ShapeId.{ShapeId}
use Rattle.schema_tree.specs.Edges.{StandsIn, in_and, in_not, in_or, itself}
use Rattle.schema_tree.specs.Entries.{entry}
use Rattle.schema_tree.specs.Loaded.{IsLoaded}
use Rattle.schema_tree.proofs.Decide.{same_shapes}
use Rattle.lists.proofs.Decided.{Decided, decide_member}
use Rattle.lists.proofs.Members.{from_map, in_map, in_one, in_rest, is_first, is_later, not_in_none}
use Rattle.demand.specs.Links.{StandsAny, StandsInSome, members_of, own_of}

number_is : (d e : ExprId) → d.0 ≡ e.0 → d ≡ e
number_is d e is = ap (λ k. record { 0 = k }) is

-- a Shape stands in an expression where it is the expression, or stands in a member
to_parts : (s : Schema) (e : ExprId) (i : ShapeId) (sign : Bool) → StandsIn s i e sign → Contains (own_of (entry s e)) i ⊎ StandsInSome s (members_of (entry s e)) i
to_parts s e i sign (itself is) = inl (subst (λ x. Contains (own_of x) i) (sym is) (is_first i []))
to_parts s e i sign (in_and es d is c st) = inr (d, subst (λ x. Contains (members_of x) d.0) (sym is) (in_map (λ u. u.0) es d c), (sign, st))
to_parts s e i sign (in_or es d is c st) = inr (d, subst (λ x. Contains (members_of x) d.0) (sym is) (in_map (λ u. u.0) es d c), (sign, st))
to_parts s e i sign (in_not {sign = inner} d is st) = inr (d, subst (λ x. Contains (members_of x) d.0) (sym is) (is_first d.0 []), (inner, st))

from_own : (s : Schema) (e : ExprId) (i : ShapeId) (x : Option Expr) → entry s e ≡ x → Contains (own_of x) i → StandsAny s i e
from_own s e i None is c = absurd (not_in_none i c)
from_own s e i (Some (Exprs.And es)) is c = absurd (not_in_none i c)
from_own s e i (Some (Exprs.Or es)) is c = absurd (not_in_none i c)
from_own s e i (Some (Exprs.Not d)) is c = absurd (not_in_none i c)
from_own s e i (Some (Exprs.Node n)) is c = absurd (not_in_none i c)
from_own s e i (Some (Exprs.Shape j)) is c = (false, itself (is ∙ ap (λ u. Some (Exprs.Shape u)) (in_one j i c)))

from_member : (s : Schema) (e : ExprId) (i : ShapeId) (x : Option Expr) → entry s e ≡ x → StandsInSome s (members_of x) i → StandsAny s i e
from_member s e i None is (d, c, st) = absurd (not_in_none d.0 c)
from_member s e i (Some (Exprs.And es)) is (d, c, (sign, st)) =
    let (u, held, same) = from_map (λ w. w.0) es d.0 c in (sign, in_and es d is (subst (λ w. Contains es w) (number_is u d same) held) st)
from_member s e i (Some (Exprs.Or es)) is (d, c, (sign, st)) =
    let (u, held, same) = from_map (λ w. w.0) es d.0 c in (sign, in_or es d is (subst (λ w. Contains es w) (number_is u d same) held) st)
from_member s e i (Some (Exprs.Not u)) is (d, c, (sign, st)) =
    let same : u.0 ≡ d.0 = in_one u.0 d.0 c in (true, in_not d (is ∙ ap (λ w. Some (Exprs.Not w)) (number_is u d same)) st)
from_member s e i (Some (Exprs.Node n)) is (d, c, st) = absurd (not_in_none d.0 c)
from_member s e i (Some (Exprs.Shape j)) is (d, c, st) = absurd (not_in_none d.0 c)

-- one more expression is opened: the Shapes that are found or still to be found are the same
abbrev pub Found : Schema → ExprId → List ℕ → List ShapeId → Type 0
Found s e agenda shapes = (i : ShapeId) → (Contains shapes i ⊎ StandsInSome s agenda i) ↔ StandsAny s i e

pub first_found : (s : Schema) (e : ExprId) (agenda : List ℕ) → ((q : ℕ) → Contains agenda q ↔ (Contains [] q ⊎ (q ≡ e.0))) → Found s e agenda []
first_found s e agenda put i = (
  (λ h. elim h [
    | inl c ↦ absurd (not_in_none i c)
    | inr (d, c, st) ↦ elim ((put d.0).0 c) [ inl n ↦ absurd (not_in_none d.0 n) | inr is ↦ subst (λ u. StandsAny s i u) (number_is d e is) st ]
  ]),
  (λ st. inr (e, (put e.0).1 (inr refl), st)),
)

pub next_found : (s : Schema) (e d : ExprId) (old middle new : List ℕ) (shapes found : List ShapeId) → Found s e old shapes →
    ((q : ℕ) → Contains old q ↔ (Contains middle q ⊎ (q ≡ d.0))) → ((q : ℕ) → Contains new q ↔ (Contains middle q ⊎ Contains (members_of (entry s d)) q)) →
    ((i : ShapeId) → Contains found i ↔ (Contains shapes i ⊎ Contains (own_of (entry s d)) i)) → Found s e new found
next_found s e d old middle new shapes found h taken put add i = (to, from)
  where
    to : Contains found i ⊎ StandsInSome s new i → StandsAny s i e
    to (inl c) = elim ((add i).0 c) [
      | inl l ↦ (h i).0 (inl l)
      | inr own ↦ (h i).0 (inr (d, (taken d.0).1 (inr refl), from_own s d i (entry s d) refl own))
    ]
    to (inr (u, c, st)) = elim ((put u.0).0 c) [
      | inl m ↦ (h i).0 (inr (u, (taken u.0).1 (inl m), st))
      | inr m ↦ (h i).0 (inr (d, (taken d.0).1 (inr refl), from_member s d i (entry s d) refl (u, m, st)))
    ]

    opened : Contains (own_of (entry s d)) i ⊎ StandsInSome s (members_of (entry s d)) i → Contains found i ⊎ StandsInSome s new i
    opened (inl own) = inl ((add i).1 (inr own))
    opened (inr (w, m, st)) = inr (w, (put w.0).1 (inr m), st)

    from : StandsAny s i e → Contains found i ⊎ StandsInSome s new i
    from st = elim ((h i).1 st) [
      | inl c ↦ inl ((add i).1 (inl c))
      | inr (u, c, (sign, st)) ↦ elim ((taken u.0).0 c) [
        | inl m ↦ inr (u, (put u.0).1 (inl m), (sign, st))
        | inr is ↦ opened (to_parts s d i sign (subst (λ w. StandsIn s i w sign) (number_is u d is) st))
      ]
    ]

pub all_found : (s : Schema) (e : ExprId) (agenda : List ℕ) (shapes : List ShapeId) → agenda ≡ [] → Found s e agenda shapes → (i : ShapeId) → Contains shapes i ↔ StandsAny s i e
all_found s e agenda shapes none h i = (
  (λ c. (h i).0 (inl c)),
  (λ st. elim ((h i).1 st) [ inl c ↦ c | inr (d, c, rest) ↦ absurd (not_in_none d.0 (subst (λ xs. Contains xs d.0) none c)) ]),
)

-- members have smaller numbers
pub smaller : (s : Schema) → IsLoaded s → (d : ExprId) (q : ℕ) → Contains (members_of (entry s d)) q → q < d.0
smaller s loaded d q c = go (entry s d) refl c
  where
    go : (x : Option Expr) → entry s d ≡ x → Contains (members_of x) q → q < d.0
    go None is c = absurd (not_in_none q c)
    go (Some (Exprs.And es)) is c = let (u, held, same) = from_map (λ w. w.0) es q c in let l = loaded.refers d (Exprs.And es) is u held in omega (arith, l, same)
    go (Some (Exprs.Or es)) is c = let (u, held, same) = from_map (λ w. w.0) es q c in let l = loaded.refers d (Exprs.Or es) is u held in omega (arith, l, same)
    go (Some (Exprs.Not u)) is c = let same : u.0 ≡ q = in_one u.0 q c in let l = loaded.refers d (Exprs.Not u) is in omega (arith, l, same)
    go (Some (Exprs.Node n)) is c = absurd (not_in_none q c)
    go (Some (Exprs.Shape j)) is c = absurd (not_in_none q c)

-- ---- whether a Shape stands in an expression

module _ (s : Schema) (loaded : IsLoaded s) (i : ShapeId) where
  decide_some : (todo : List ℕ) → ((q : ℕ) → Contains todo q → Decided (StandsAny s i (record { 0 = q }))) → Decided (StandsInSome s todo i)
  decide_some [] d = inr (λ (e, c, st). not_in_none e.0 c)
  decide_some (q ∷ qs) d = go (d q (is_first q qs)) (decide_some qs (λ r c. d r (is_later q qs r c)))
    where
      go : Decided (StandsAny s i (record { 0 = q })) → Decided (StandsInSome s qs i) → Decided (StandsInSome s (q ∷ qs) i)
      go (inl st) rest = inl (record { 0 = q }, is_first q qs, st)
      go (inr none) (inl (e, c, st)) = inl (e, is_later q qs e.0 c, st)
      go (inr none) (inr more) = inr (λ (e, c, st). elim (in_rest q qs e.0 c) [
        | inl is ↦ none (subst (λ u. StandsAny s i u) (sym (number_is (record { 0 = q }) e is)) st)
        | inr later ↦ more (e, later, st)
      ])

  decide_below : (k : ℕ) (e : ExprId) → e.0 < k → Decided (StandsAny s i e)
  decide_below zero e lt = absurd (omega (arith, lt))
  decide_below (suc k) e lt =
      go (decide_member same_shapes (own_of (entry s e)) i)
      (decide_some (members_of (entry s e)) (λ q c. decide_below k (record { 0 = q }) (let l = smaller s loaded e q c in omega (arith, l, lt))))
    where
      go : Decided (Contains (own_of (entry s e)) i) → Decided (StandsInSome s (members_of (entry s e)) i) → Decided (StandsAny s i e)
      go (inl own) rest = inl (from_own s e i (entry s e) refl own)
      go (inr none) (inl some) = inl (from_member s e i (entry s e) refl some)
      go (inr none) (inr more) = inr (λ (sign, st). elim (to_parts s e i sign st) [ inl own ↦ none own | inr some ↦ more some ])

  pub decide_stands : (e : ExprId) → Decided (StandsAny s i e)
  decide_stands e = decide_below (suc e.0) e (omega arith)
