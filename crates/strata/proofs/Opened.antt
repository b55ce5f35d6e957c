-- Which arcs come of an expression, by its members.
use Rattle.std.proofs.Common.{◌≡◌, ◌∙◌, ℕ, ◌<◌, ◌⊎◌, ◌++◌, inl, inr, List, [], ◌∷◌, Bool, true, false, refl, arith, sym, subst, ap, length, map, take, get_or, ◌+◌}
use Rattle.std.specs.Prelude.{◌↔◌, Contains, Option, Some, None, ◌||◌}
use Rattle.std.proofs.lemmas.List.{map-append, take_more}
use Rattle.schema_tree.specs.declared.schema.Expr.{Expr}
use Rattle.schema_tree.specs.declared.schema.Expr.TheVariants as Exprs
use Rattle.schema_tree.specs.declared.schema.ExprId.{ExprId}
use Rattle.schema_tree.specs.declared.schema.Schema.{Schema}
use Rattle.schema_tree.specs.declared.schema.ShapeId.{ShapeId}
use Rattle.schema_tree.specs.Edges.{in_and, in_not, in_or, itself}
use Rattle.schema_tree.specs.Entries.{entry}
use Rattle.schema_tree.specs.Loaded.{IsLoaded}
use Rattle.lists.proofs.Members.{from_map, in_map, in_one, is_first, not_in_none}
use Rattle.strata.specs.declared.edges.Arc.{Arc}
use Rattle.strata.specs.Gathers.{AreBelow, FromEntry, FromOwn, FromSome, Grows, Has, LeavesNegated, members_of, negated_of}
use Rattle.strata.proofs.Grown.{grow_one, grow_same, or_false, or_true, stands_and, stands_node, stands_none, stands_not, stands_or, stands_shape}

-- ---- numbers that are put

-- nothing more is put
pub has_none : (xs : List ℕ) → Has xs [] xs
has_none xs q = (inl, (λ h. elim h [ inl l ↦ l | inr n ↦ absurd (not_in_none q n) ]))

-- the numbers of one more expression
pub next_number : (es : List ExprId) (i : ℕ) (d : ExprId) → i < length es → map (λ (e : ExprId). e.0) (take (i + 1) es) ≡ map (λ (e : ExprId). e.0) (take i es) ++ (get_or es i d).0 ∷ []
next_number es i d inside = ap (map (λ (e : ExprId). e.0)) (take_more es i d inside) ∙ map-append (λ (e : ExprId). e.0) (take i es) (get_or es i d ∷ [])

-- ---- what is still to be added

-- the arcs that are there and those of R are those that were there and those of P
abbrev pub Owes : (P R : Arc → Type 0) → List Arc → List Arc → Type 0
Owes P R old now = (a : Arc) → (Contains now a ⊎ R a) ↔ (Contains old a ⊎ P a)

-- the arcs of O are added, and those of Q are still to be
pub owes_less : (P R O Q : Arc → Type 0) (old now next : List Arc) → Owes P R old now → ((a : Arc) → R a ↔ (O a ⊎ Q a)) → Grows O now next → Owes P Q old next
owes_less P R O Q old now next h split g a = (to, from)
  where
    to : Contains next a ⊎ Q a → Contains old a ⊎ P a
    to (inl c) = elim (g.only a c) [ inl l ↦ (h a).0 (inl l) | inr o ↦ (h a).0 (inr ((split a).1 (inl o))) ]
    to (inr q) = (h a).0 (inr ((split a).1 (inr q)))

    from : Contains old a ⊎ P a → Contains next a ⊎ Q a
    from x = elim ((h a).1 x) [
      | inl c ↦ inl (g.kept a c)
      | inr r ↦ elim ((split a).0 r) [ inl o ↦ inl (g.added a o) | inr q ↦ inr q ]
    ]

-- nothing is still to be added
pub owes_none : (P R : Arc → Type 0) (old now : List Arc) → Owes P R old now → ((a : Arc) → ¬ R a) → Grows P old now
owes_none P R old now h none = record {
  kept = λ a c. settled a (inl c);
  added = λ a p. settled a (inr p);
  only = λ a c. (h a).0 (inl c);
}
  where
    settled : (a : Arc) → Contains old a ⊎ P a → Contains now a
    settled a x = elim ((h a).1 x) [ inl c ↦ c | inr r ↦ absurd (none a r) ]

-- ---- opening

number_is : (d e : ExprId) → d.0 ≡ e.0 → d ≡ e
number_is d e is = ap (λ k. record { 0 = k }) is

module _ (s : Schema) (from : ShapeId) where
  -- the arcs of no expressions
  pub of_none : (n : Bool) (a : Arc) → ¬ FromSome s from n [] a
  of_none n a (d, c, p) = not_in_none d.0 c

  pub of_put : (n : Bool) (before ys now : List ℕ) → Has before ys now → (a : Arc) → FromSome s from n now a ↔ (FromSome s from n before a ⊎ FromSome s from n ys a)
  of_put n before ys now h a = (
    (λ (d, c, p). elim ((h d.0).0 c) [ inl b ↦ inl (d, b, p) | inr y ↦ inr (d, y, p) ]),
    (λ x. elim x [ inl (d, b, p) ↦ (d, (h d.0).1 (inl b), p) | inr (d, y, p) ↦ (d, (h d.0).1 (inr y), p) ]),
  )

  pub of_taken : (n : Bool) (old middle : List ℕ) (e : ExprId) → ((q : ℕ) → Contains old q ↔ (Contains middle q ⊎ (q ≡ e.0))) → (a : Arc) →
      FromSome s from n old a ↔ (FromEntry s from n e a ⊎ FromSome s from n middle a)
  of_taken n old middle e h a = (
    (λ (d, c, p). elim ((h d.0).0 c) [ inl m ↦ inr (d, m, p) | inr is ↦ inl (subst (λ u. FromEntry s from n u a) (number_is d e is) p) ]),
    (λ x. elim x [ inl p ↦ (e, (h e.0).1 (inr refl), p) | inr (d, m, p) ↦ (d, (h d.0).1 (inl m), p) ]),
  )

  -- what comes of an expression is its own, or comes of a member, or negatively of what it negates
  to_parts : (n : Bool) (e : ExprId) (x : Option Expr) → entry s e ≡ x → (a : Arc) → FromEntry s from n e a → FromOwn from n x a ⊎
      (FromSome s from n (members_of x) a ⊎ FromSome s from true (negated_of x) a)
  to_parts n e None is a (f, (sign, st, m)) = absurd (stands_none s a.to e sign is st)
  to_parts n e (Some (Exprs.And es)) is a (f, (sign, st, m)) =
      let (d, c, inner) = stands_and s a.to e sign es is st in inr (inl (d, in_map (λ u. u.0) es d c, (f, (sign, inner, m))))
  to_parts n e (Some (Exprs.Or es)) is a (f, (sign, st, m)) =
      let (d, c, inner) = stands_or s a.to e sign es is st in inr (inl (d, in_map (λ u. u.0) es d c, (f, (sign, inner, m))))
  to_parts n e (Some (Exprs.Not d)) is a (f, (sign, st, m)) =
      let t = stands_not s a.to e sign d is st in
      inr (inr (d, is_first d.0 [], (f, (t.1.0, t.1.1, subst (λ b. a.negative ≡ n || b) t.0 m ∙ or_true n))))
  to_parts n e (Some (Exprs.Node k)) is a (f, (sign, st, m)) = absurd (stands_node s a.to e sign k is st)
  to_parts n e (Some (Exprs.Shape t)) is a (f, (sign, st, m)) =
      let h = stands_shape s a.to e sign t is st in inl (f, sym h.1, subst (λ b. a.negative ≡ n || b) h.0 m ∙ or_false n)

  from_own : (n : Bool) (e : ExprId) (x : Option Expr) → entry s e ≡ x → (a : Arc) → FromOwn from n x a → FromEntry s from n e a
  from_own n e None is a h = absurd h
  from_own n e (Some (Exprs.And es)) is a h = absurd h
  from_own n e (Some (Exprs.Or es)) is a h = absurd h
  from_own n e (Some (Exprs.Not d)) is a h = absurd h
  from_own n e (Some (Exprs.Node k)) is a h = absurd h
  from_own n e (Some (Exprs.Shape t)) is a (f, to, m) = (f, (false, itself (is ∙ ap (λ u. Some (Exprs.Shape u)) (sym to)), m ∙ sym (or_false n)))

  from_member : (n : Bool) (e : ExprId) (x : Option Expr) → entry s e ≡ x → (a : Arc) → FromSome s from n (members_of x) a → FromEntry s from n e a
  from_member n e None is a (d, c, p) = absurd (not_in_none d.0 c)
  from_member n e (Some (Exprs.And es)) is a (d, c, (f, (sign, st, m))) =
      let (u, held, same) = from_map (λ w. w.0) es d.0 c in (f, (sign, in_and es d is (subst (λ w. Contains es w) (number_is u d same) held) st, m))
  from_member n e (Some (Exprs.Or es)) is a (d, c, (f, (sign, st, m))) =
      let (u, held, same) = from_map (λ w. w.0) es d.0 c in (f, (sign, in_or es d is (subst (λ w. Contains es w) (number_is u d same) held) st, m))
  from_member n e (Some (Exprs.Not u)) is a (d, c, p) = absurd (not_in_none d.0 c)
  from_member n e (Some (Exprs.Node k)) is a (d, c, p) = absurd (not_in_none d.0 c)
  from_member n e (Some (Exprs.Shape t)) is a (d, c, p) = absurd (not_in_none d.0 c)

  from_negated : (n : Bool) (e : ExprId) (x : Option Expr) → entry s e ≡ x → (a : Arc) → FromSome s from true (negated_of x) a → FromEntry s from n e a
  from_negated n e None is a (d, c, p) = absurd (not_in_none d.0 c)
  from_negated n e (Some (Exprs.And es)) is a (d, c, p) = absurd (not_in_none d.0 c)
  from_negated n e (Some (Exprs.Or es)) is a (d, c, p) = absurd (not_in_none d.0 c)
  from_negated n e (Some (Exprs.Not u)) is a (d, c, (f, (sign, st, m))) =
      let same : u.0 ≡ d.0 = in_one u.0 d.0 c in (f, (true, in_not d (is ∙ ap (λ w. Some (Exprs.Not w)) (number_is u d same)) st, m ∙ sym (or_true n)))
  from_negated n e (Some (Exprs.Node k)) is a (d, c, p) = absurd (not_in_none d.0 c)
  from_negated n e (Some (Exprs.Shape t)) is a (d, c, p) = absurd (not_in_none d.0 c)

  from_parts : (n : Bool) (e : ExprId) (x : Option Expr) → entry s e ≡ x → (a : Arc) → FromOwn from n x a ⊎
      (FromSome s from n (members_of x) a ⊎ FromSome s from true (negated_of x) a) → FromEntry s from n e a
  from_parts n e x is a (inl h) = from_own n e x is a h
  from_parts n e x is a (inr (inl h)) = from_member n e x is a h
  from_parts n e x is a (inr (inr h)) = from_negated n e x is a h

  -- an expression is opened that is reached without a Not
  pub plain_opened : (e : ExprId) (x : Option Expr) → entry s e ≡ x → (old middle new negated more : List ℕ) →
      ((q : ℕ) → Contains old q ↔ (Contains middle q ⊎ (q ≡ e.0))) → Has middle (members_of x) new → Has negated (negated_of x) more → (a : Arc) →
      (FromSome s from false old a ⊎ FromSome s from true negated a) ↔ (FromOwn from false x a ⊎ (FromSome s from false new a ⊎ FromSome s from true more a))
  plain_opened e x is old middle new negated more taken put behind a = (to, back)
    where
      here : FromSome s from false old a ↔ (FromEntry s from false e a ⊎ FromSome s from false middle a)
      here = of_taken false old middle e taken a

      members : FromSome s from false new a ↔ (FromSome s from false middle a ⊎ FromSome s from false (members_of x) a)
      members = of_put false middle (members_of x) new put a

      below : FromSome s from true more a ↔ (FromSome s from true negated a ⊎ FromSome s from true (negated_of x) a)
      below = of_put true negated (negated_of x) more behind a

      opened : FromOwn from false x a ⊎ (FromSome s from false (members_of x) a ⊎ FromSome s from true (negated_of x) a) → FromOwn from false x a ⊎
          (FromSome s from false new a ⊎ FromSome s from true more a)
      opened (inl o) = inl o
      opened (inr (inl m)) = inr (inl (members.1 (inr m)))
      opened (inr (inr m)) = inr (inr (below.1 (inr m)))

      to : FromSome s from false old a ⊎ FromSome s from true negated a → FromOwn from false x a ⊎ (FromSome s from false new a ⊎ FromSome s from true more a)
      to (inl p) = elim (here.0 p) [
        | inl h ↦ opened (to_parts false e x is a h)
        | inr m ↦ inr (inl (members.1 (inl m)))
      ]
      to (inr p) = inr (inr (below.1 (inl p)))

      back : FromOwn from false x a ⊎ (FromSome s from false new a ⊎ FromSome s from true more a) → FromSome s from false old a ⊎ FromSome s from true negated a
      back (inl o) = inl (here.1 (inl (from_parts false e x is a (inl o))))
      back (inr (inl p)) = elim (members.0 p) [
        | inl m ↦ inl (here.1 (inr m))
        | inr m ↦ inl (here.1 (inl (from_parts false e x is a (inr (inl m)))))
      ]
      back (inr (inr p)) = elim (below.0 p) [
        | inl m ↦ inr m
        | inr m ↦ inl (here.1 (inl (from_parts false e x is a (inr (inr m)))))
      ]

  -- an expression is opened that is reached behind a Not, or for an occurrence under EXTRA
  pub negative_opened : (e : ExprId) (x : Option Expr) → entry s e ≡ x → (old middle more new : List ℕ) →
      ((q : ℕ) → Contains old q ↔ (Contains middle q ⊎ (q ≡ e.0))) → Has middle (members_of x) more → Has more (negated_of x) new → (a : Arc) →
      FromSome s from true old a ↔ (FromOwn from true x a ⊎ FromSome s from true new a)
  negative_opened e x is old middle more new taken put behind a = (to, back)
    where
      here : FromSome s from true old a ↔ (FromEntry s from true e a ⊎ FromSome s from true middle a)
      here = of_taken true old middle e taken a

      members : FromSome s from true more a ↔ (FromSome s from true middle a ⊎ FromSome s from true (members_of x) a)
      members = of_put true middle (members_of x) more put a

      below : FromSome s from true new a ↔ (FromSome s from true more a ⊎ FromSome s from true (negated_of x) a)
      below = of_put true more (negated_of x) new behind a

      opened : FromOwn from true x a ⊎ (FromSome s from true (members_of x) a ⊎ FromSome s from true (negated_of x) a) → FromOwn from true x a ⊎ FromSome s from true new a
      opened (inl o) = inl o
      opened (inr (inl m)) = inr (below.1 (inl (members.1 (inr m))))
      opened (inr (inr m)) = inr (below.1 (inr m))

      to : FromSome s from true old a → FromOwn from true x a ⊎ FromSome s from true new a
      to p = elim (here.0 p) [
        | inl h ↦ opened (to_parts true e x is a h)
        | inr m ↦ inr (below.1 (inl (members.1 (inl m))))
      ]

      back : FromOwn from true x a ⊎ FromSome s from true new a → FromSome s from true old a
      back (inl o) = here.1 (inl (from_parts true e x is a (inl o)))
      back (inr p) = elim (below.0 p) [
        | inl q ↦ elim (members.0 q) [
          | inl m ↦ here.1 (inr m)
          | inr m ↦ here.1 (inl (from_parts true e x is a (inr (inl m))))
        ]
        | inr m ↦ here.1 (inl (from_parts true e x is a (inr (inr m))))
      ]

  -- the arcs of one expression alone
  pub of_one : (n : Bool) (agenda : List ℕ) (e : ExprId) → ((q : ℕ) → Contains agenda q ↔ (Contains [] q ⊎ (q ≡ e.0))) → (a : Arc) → FromSome s from n agenda a ↔ FromEntry s from n e a
  of_one n agenda e put a = (
    (λ p. elim ((of_taken n agenda [] e put a).0 p) [ inl h ↦ h | inr none ↦ absurd (of_none n a none) ]),
    (λ h. (of_taken n agenda [] e put a).1 (inl h)),
  )

  -- the walk begins at the expression
  pub plain_begins : (e : ExprId) (agenda negated : List ℕ) → ((q : ℕ) → Contains agenda q ↔ (Contains [] q ⊎ (q ≡ e.0))) → negated ≡ [] → (arcs : List Arc) →
      Owes (FromEntry s from false e) (λ a. FromSome s from false agenda a ⊎ FromSome s from true negated a) arcs arcs
  plain_begins e agenda negated put none arcs a = (
    (λ x. elim x [
      | inl c ↦ inl c
      | inr r ↦ elim r [
        | inl p ↦ inr ((of_one false agenda e put a).0 p)
        | inr p ↦ absurd (of_none true a (subst (λ xs. FromSome s from true xs a) none p))
      ]
    ]),
    (λ x. elim x [ inl c ↦ inl c | inr h ↦ inr (inl ((of_one false agenda e put a).1 h)) ]),
  )

  -- and ends where nothing is left
  pub plain_ends : (e : ExprId) (agenda negated : List ℕ) (old now : List Arc) → agenda ≡ [] →
      Owes (FromEntry s from false e) (λ a. FromSome s from false agenda a ⊎ FromSome s from true negated a) old now → AreBelow (length s.exprs) negated → LeavesNegated s from e old now negated
  plain_ends e agenda negated old now none h below = record {
    there = below;
    exactly = λ a. (
      (λ x. elim x [ inl c ↦ (h a).0 (inl c) | inr p ↦ (h a).0 (inr (inr p)) ]),
      (λ x. elim ((h a).1 x) [
        | inl c ↦ inl c
        | inr r ↦ elim r [
          | inl p ↦ absurd (of_none false a (subst (λ xs. FromSome s from false xs a) none p))
          | inr p ↦ inr p
        ]
      ]),
    );
  }

  pub negative_begins : (agenda : List ℕ) (arcs : List Arc) → Owes (FromSome s from true agenda) (FromSome s from true agenda) arcs arcs
  negative_begins agenda arcs a = ((λ x. x), (λ x. x))

  pub negative_ends : (first agenda : List ℕ) (old now : List Arc) → agenda ≡ [] → Owes (FromSome s from true first) (FromSome s from true agenda) old now → Grows (FromSome s from true first) old now
  negative_ends first agenda old now none h =
      owes_none (FromSome s from true first) (FromSome s from true agenda) old now h (λ a p. of_none true a (subst (λ xs. FromSome s from true xs a) none p))

  -- all edges of an expression whose edges are all negative
  pub all_negative : (n : Bool) (agenda : List ℕ) (e : ExprId) (old new : List Arc) → n ≡ true → ((q : ℕ) → Contains agenda q ↔ (Contains [] q ⊎ (q ≡ e.0))) →
      Grows (FromSome s from true agenda) old new → Grows (FromEntry s from n e) old new
  all_negative n agenda e old new is put g =
      subst (λ b. Grows (FromEntry s from b e) old new) (sym is)
      (grow_same (FromSome s from true agenda) (FromEntry s from true e) (λ a p. (of_one true agenda e put a).0 p) (λ a p. (of_one true agenda e put a).1 p) old new g)

  -- the edges without a Not on the way, and then the others
  pub one_by_one : (n : Bool) (e : ExprId) (old middle new : List Arc) (negated : List ℕ) → n ≡ false → LeavesNegated s from e old middle negated →
      Grows (FromSome s from true negated) middle new → Grows (FromEntry s from n e) old new
  one_by_one n e old middle new negated is h g =
      subst (λ b. Grows (FromEntry s from b e) old new) (sym is) (owes_none (FromEntry s from false e) (λ a. ⊥) old new less (λ a none. none))
    where
      less : Owes (FromEntry s from false e) (λ a. ⊥) old new
      less = owes_less (FromEntry s from false e) (FromSome s from true negated) (FromSome s from true negated) (λ a. ⊥) old middle new h.exactly
          (λ a. (inl, (λ x. elim x [ inl p ↦ p | inr none ↦ absurd none ]))) g

-- members have smaller numbers
pub member_below : (s : Schema) → IsLoaded s → (e : ExprId) (x : Expr) → entry s e ≡ Some x → AreBelow e.0 (members_of (Some x))
member_below s loaded e (Exprs.And es) is q c = let (u, held, same) = from_map (λ w. w.0) es q c in let l = loaded.refers e (Exprs.And es) is u held in omega (arith, l, same)
member_below s loaded e (Exprs.Or es) is q c = let (u, held, same) = from_map (λ w. w.0) es q c in let l = loaded.refers e (Exprs.Or es) is u held in omega (arith, l, same)
member_below s loaded e (Exprs.Not u) is q c = absurd (not_in_none q c)
member_below s loaded e (Exprs.Node k) is q c = absurd (not_in_none q c)
member_below s loaded e (Exprs.Shape t) is q c = absurd (not_in_none q c)

-- what is negated has a smaller number
pub negated_below : (s : Schema) → IsLoaded s → (e : ExprId) (x : Expr) → entry s e ≡ Some x → AreBelow e.0 (negated_of (Some x))
negated_below s loaded e (Exprs.Not u) is q c = let same : u.0 ≡ q = in_one u.0 q c in let l = loaded.refers e (Exprs.Not u) is in omega (arith, l, same)
negated_below s loaded e (Exprs.And es) is q c = absurd (not_in_none q c)
negated_below s loaded e (Exprs.Or es) is q c = absurd (not_in_none q c)
negated_below s loaded e (Exprs.Node k) is q c = absurd (not_in_none q c)
negated_below s loaded e (Exprs.Shape t) is q c = absurd (not_in_none q c)

-- numbers below a bound, with others below it
pub put_below : (n : ℕ) (before ys now : List ℕ) → Has before ys now → AreBelow n before → AreBelow n ys → AreBelow n now
put_below n before ys now h old more q c = elim ((h q).0 c) [ inl b ↦ old q b | inr y ↦ more q y ]

-- the only number is below a bound
pub one_below : (n k : ℕ) (agenda : List ℕ) → ((q : ℕ) → Contains agenda q ↔ (Contains [] q ⊎ (q ≡ k))) → k < n → AreBelow n agenda
one_below n k agenda put lt q c = elim ((put q).0 c) [ inl none ↦ absurd (not_in_none q none) | inr e ↦ omega (arith, lt, e) ]

pub further_below : (k n : ℕ) (xs : List ℕ) → k < n → AreBelow k xs → AreBelow n xs
further_below k n xs lt h q c = let l = h q c in omega (arith, lt, l)

-- the arc of an expression that is a Shape
pub own_shape : (from to : ShapeId) (n : Bool) (arcs : List Arc) → Grows (FromOwn from n (Some (Exprs.Shape to))) arcs (arcs ++ record { from = from; to = to; negative = n } ∷ [])
own_shape from to n arcs = grow_one (FromOwn from n (Some (Exprs.Shape to))) arcs (record { from = from; to = to; negative = n }) (refl, refl, refl) once
  where
    same : (a : Arc) → a.from ≡ from → a.to ≡ to → a.negative ≡ n → record { from = from; to = to; negative = n } ≡ a
    same a p q r = grind (arith, p, q, r)

    once : (a : Arc) → FromOwn from n (Some (Exprs.Shape to)) a → record { from = from; to = to; negative = n } ≡ a
    once a (f, t, m) = same a f t m
