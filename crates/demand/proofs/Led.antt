-- Which pairs are reached is decided where a list holds them all, so what does not reach narrow pairs alone reaches a wide one.
use Rattle.std.proofs.Common.{◌≡◌, ◌∙◌, ℕ, ◌⊎◌, inl, inr, Bool, true, List, [], ◌∷◌, refl, arith, sym, subst, ap}
use Rattle.std.proofs.lemmas.Bool.{cases_lt}
use Rattle.std.specs.Prelude.{Contains, Option, Some, None, unwrap_or}
use Rattle.rdf_terms.specs.declared.terms.Term.{Term}
use Rattle.rdf_terms.specs.declared.terms.TermId.{TermId}
use Rattle.rdf_terms.specs.declared.terms.Triple.{Triple}
use Rattle.lists.proofs.Decided.{Decided, decide_both, decide_either, decide_true}
use Rattle.lists.proofs.Members.{in_rest, is_first, is_later, not_in_none}
use Rattle.schema_tree.specs.declared.schema.ExprId.{ExprId}
use Rattle.schema_tree.specs.declared.schema.Occurrence.{Occurrence}
use Rattle.schema_tree.specs.declared.schema.Pair.{Pair}
use Rattle.schema_tree.specs.declared.schema.Schema.{Schema}
use Rattle.schema_tree.specs.declared.schema.Shape.{Shape}
use Rattle.schema_tree.specs.declared.schema.ShapeId.{ShapeId}
use Rattle.schema_tree.specs.Edges.{StandsInValue}
use Rattle.schema_tree.specs.Entries.{pair_of, shape_at}
use Rattle.schema_tree.specs.Laws.{WidthIsOne}
use Rattle.schema_tree.specs.Loaded.{IsLoaded}
use Rattle.schema_tree.specs.Matches.{fits, other_end}
use Rattle.schema_tree.specs.Needs.{HoldNeeds, HoldRoots, IsDecided, Leads, LeadsToNarrow, LeadsToWide, Needs, Reaches, ReachesWide, here, step}
use Rattle.schema_tree.specs.Width.{IsWide, IsWithinWidth}
use Rattle.schema_tree.proofs.Decide.{same_pairs, same_terms}
use Rattle.schema_tree.proofs.Widths.{one_width}
use Rattle.demand.specs.Links.{StandsAny}
use Rattle.demand.proofs.Opened.{decide_stands}

-- an item has P, or all have Q
one_or_all : {X : Type 0} (P Q : X → Type 0) → ((x : X) → P x ⊎ Q x) → (xs : List X) → ((x : X) × Contains xs x × P x) ⊎ ((x : X) → Contains xs x → Q x)
one_or_all P Q by [] = inr (λ x c. absurd (not_in_none x c))
one_or_all P Q by (x ∷ xs) = go (by x) (one_or_all P Q by xs)
  where
    go : P x ⊎ Q x → ((y : _) × Contains xs y × P y) ⊎ ((y : _) → Contains xs y → Q y) → ((y : _) × Contains (x ∷ xs) y × P y) ⊎ ((y : _) → Contains (x ∷ xs) y → Q y)
    go (inl h) rest = inl (x, is_first x xs, h)
    go (inr h) (inl (y, c, k)) = inl (y, is_later x xs y c, k)
    go (inr h) (inr all) = inr (λ y c. elim (in_rest x xs y c) [ inl is ↦ subst Q is h | inr later ↦ all y later ])

-- whether an item has P
decide_one : {X : Type 0} (P : X → Type 0) → ((x : X) → Decided (P x)) → (xs : List X) → Decided ((x : X) × Contains xs x × P x)
decide_one P d xs = elim (one_or_all P (λ x. ¬ P x) d xs) [ inl some ↦ inl some | inr none ↦ inr (λ (x, c, h). none x c h) ]

-- a Width is at most a bound or above it
within_or_wide : WidthIsOne → (s : Schema) (terms : List Term) (g : List Triple) (bound : ℕ) (p : Pair) → IsWithinWidth s terms g bound p ⊎ IsWide s terms g bound p
within_or_wide law s terms g bound p =
    let (w, has) = (law s terms g p).0 in
    elim (cases_lt bound w) [ inl lt ↦ inr (w, has, lt) | inr le ↦ inl (w, has, le) ]

-- a Width that is above a bound is not at most the bound
not_within : (s : Schema) (terms : List Term) (g : List Triple) (bound : ℕ) (p : Pair) → IsWide s terms g bound p → ¬ IsWithinWidth s terms g bound p
not_within s terms g bound p (v, wide, above) (w, narrow, most) = let same : v ≡ w = one_width s terms g p v w wide narrow in omega (arith, same, above, most)

-- a node with an expression that reaches a wide pair is not decided
pub not_decided : (s : Schema) (terms : List Term) (g : List Triple) (budget : ℕ) (n : TermId) (e : ExprId) → ReachesWide s terms g budget n e → ¬ IsDecided s terms g budget n e
not_decided s terms g budget n e (q, reached, wide) decided = not_within s terms g budget q wide (decided q reached)

-- ---- which pairs are led to

-- pairs that hold what they need hold all to which they lead
pub led_there : (s : Schema) (g : List Triple) (pairs : List Pair) → HoldNeeds s g pairs → (p q : Pair) → Contains pairs p → Leads s g p q → Contains pairs q
led_there s g pairs whole p _ c here = c
led_there s g pairs whole p r c (step q need more) = led_there s g pairs whole q r (whole p q c need) more

-- and, with a node's Shapes in an expression, all that the two reach
pub reached_there : (s : Schema) (g : List Triple) (pairs : List Pair) → HoldNeeds s g pairs → (n : TermId) (e : ExprId) → HoldRoots s pairs n e →
    (q : Pair) → Reaches s g n e q → Contains pairs q
reached_there s g pairs whole n e roots q (i, sign, st, leads) = led_there s g pairs whole (pair_of n i) q (roots i sign st) leads

module _ (s : Schema) (loaded : IsLoaded s) (g : List Triple) where
  -- a need by an occurrence and a triple
  abbrev NeedsBy : Pair → Pair → Occurrence → Triple → Type 0
  NeedsBy p q o t = (fits o p.node t ≡ true) × ((q.node ≡ other_end o.inverse t) × ((sign : Bool) × StandsInValue s q.shape o.value sign))

  decide_value : (i : ShapeId) (value : Option ExprId) → Decided ((sign : Bool) × StandsInValue s i value sign)
  decide_value i None = inr (λ h. h.1)
  decide_value i (Some e) = decide_stands s loaded i e

  decide_by : (p q : Pair) (o : Occurrence) (t : Triple) → Decided (NeedsBy p q o t)
  decide_by p q o t = decide_both (decide_true (fits o p.node t)) (decide_both (same_terms q.node (other_end o.inverse t)) (decide_value q.shape o.value))

  pub decide_needs : (p q : Pair) → Decided (Needs s g p q)
  decide_needs p q = go (shape_at s p.shape) refl
    where
      go : (x : Option Shape) → shape_at s p.shape ≡ x → Decided (Needs s g p q)
      go None is = inr (λ need. (let f : None ≡ Some need.shape = sym is ∙ need.is in absurd cc))
      go (Some sh) is = elim (decide_one (λ o. (t : Triple) × Contains g t × NeedsBy p q o t) (λ o. decide_one (NeedsBy p q o) (decide_by p q o) g) sh.occs) [
        | inl (o, of, (t, held, (fit, (end, (sign, stands))))) ↦ inl (record { shape = sh; is = is; occ = o; of = of; triple = t; held = held; fit = fit; end = end; sign = sign; stands = stands })
        | inr none ↦ inr (λ need.
            (let same : need.shape ≡ sh = ap (λ x. unwrap_or x sh) (sym need.is ∙ is) in
            none (need.occ, subst (λ z. Contains z.occs need.occ) same need.of, (need.triple, need.held, (need.fit, (need.end, (need.sign, need.stands)))))))
      ]

  -- needs lead from the one to the other, over pairs of the list alone
  abbrev Over : List Pair → Pair → Pair → Type 0
  Over [] a b = (a ≡ b) ⊎ Needs s g a b
  Over (x ∷ xs) a b = Over xs a b ⊎ (Over xs a x × Over xs x b)

  decide_over : (xs : List Pair) (a b : Pair) → Decided (Over xs a b)
  decide_over [] a b = decide_either (same_pairs a b) (decide_needs a b)
  decide_over (x ∷ xs) a b = decide_either (decide_over xs a b) (decide_both (decide_over xs a x) (decide_over xs x b))

  leads_on : (a b c : Pair) → Leads s g a b → Leads s g b c → Leads s g a c
  leads_on a _ c here more = more
  leads_on a b c (step q need less) more = step q need (leads_on q b c less more)

  leads_over : (xs : List Pair) (a b : Pair) → Over xs a b → Leads s g a b
  leads_over [] a b (inl is) = subst (λ z. Leads s g a z) is here
  leads_over [] a b (inr need) = step b need here
  leads_over (x ∷ xs) a b (inl h) = leads_over xs a b h
  leads_over (x ∷ xs) a b (inr (to, from)) = leads_on a x b (leads_over xs a x to) (leads_over xs x b from)

  at_once : (xs : List Pair) (a b : Pair) → (a ≡ b) ⊎ Needs s g a b → Over xs a b
  at_once [] a b h = h
  at_once (x ∷ xs) a b h = inl (at_once xs a b h)

  -- two ways that meet at a pair of the list are one
  joined : (xs : List Pair) (m : Pair) → Contains xs m → (a b : Pair) → Over xs a m → Over xs m b → Over xs a b
  joined [] m c a b to from = absurd (not_in_none m c)
  joined (x ∷ xs) m c a b to from = elim (in_rest x xs m c) [
    | inl is ↦ inr (last (subst (λ z. Over (x ∷ xs) a z) (sym is) to), first (subst (λ z. Over (x ∷ xs) z b) (sym is) from))
    | inr later ↦ by (λ u v. joined xs m later u v) to from
  ]
    where
      last : Over (x ∷ xs) a x → Over xs a x
      last (inl h) = h
      last (inr (h, k)) = h

      first : Over (x ∷ xs) x b → Over xs x b
      first (inl h) = h
      first (inr (h, k)) = k

      by : ((u v : Pair) → Over xs u m → Over xs m v → Over xs u v) → Over (x ∷ xs) a m → Over (x ∷ xs) m b → Over (x ∷ xs) a b
      by join (inl h) (inl k) = inl (join a b h k)
      by join (inl h) (inr (k, l)) = inr (join a x h k, l)
      by join (inr (h, k)) (inl l) = inr (h, join x b k l)
      by join (inr (h, k)) (inr (l, r)) = inr (h, r)

  module _ (pairs : List Pair) where
    -- the list holds all to which needs lead from the pair
    abbrev HoldsLed : Pair → Type 0
    HoldsLed p = (q : Pair) → Leads s g p q → Contains pairs q

    over_all : (p q : Pair) → HoldsLed p → Leads s g p q → Over pairs p q
    over_all p _ there here = at_once pairs p p (inl refl)
    over_all p r there (step q need more) =
        joined pairs q (there q (step q need here)) p r (at_once pairs p q (inr need)) (over_all q r (λ x leads. there x (step q need leads)) more)

    decide_leads : (p q : Pair) → HoldsLed p → Decided (Leads s g p q)
    decide_leads p q there = elim (decide_over pairs p q) [ inl h ↦ inl (leads_over pairs p q h) | inr h ↦ inr (λ leads. h (over_all p q there leads)) ]

    -- of pairs of the list, if it is decided which, one is wide where not all are narrow
    one_wide : WidthIsOne → (terms : List Term) (budget : ℕ) (P : Pair → Type 0) → ((q : Pair) → Decided (P q)) → ((q : Pair) → P q → Contains pairs q) →
        ¬ ((q : Pair) → P q → IsWithinWidth s terms g budget q) → (q : Pair) × P q × IsWide s terms g budget q
    one_wide law terms budget P d there not_all = elim (one_or_all (λ q. P q × IsWide s terms g budget q) (λ q. P q → IsWithinWidth s terms g budget q) by pairs) [
      | inl (q, c, (h, wide)) ↦ (q, h, wide)
      | inr narrow ↦ absurd (not_all (λ q h. narrow q (there q h) h))
    ]
      where
        by : (q : Pair) → (P q × IsWide s terms g budget q) ⊎ (P q → IsWithinWidth s terms g budget q)
        by q = go (d q) (within_or_wide law s terms g budget q)
          where
            go : Decided (P q) → IsWithinWidth s terms g budget q ⊎ IsWide s terms g budget q → (P q × IsWide s terms g budget q) ⊎ (P q → IsWithinWidth s terms g budget q)
            go (inr none) size = inr (λ h. absurd (none h))
            go (inl h) (inl narrow) = inr (λ k. narrow)
            go (inl h) (inr wide) = inl (h, wide)

    -- a pair that does not lead to narrow pairs alone leads to a wide one
    pub leads_wide : WidthIsOne → (terms : List Term) (budget : ℕ) (p : Pair) → HoldsLed p → ¬ LeadsToNarrow s terms g budget p → LeadsToWide s terms g budget p
    leads_wide law terms budget p there = one_wide law terms budget (Leads s g p) (λ q. decide_leads p q there) there

    module _ (n : TermId) (e : ExprId) (there : (q : Pair) → Reaches s g n e q → Contains pairs q) where
      -- the expression at the node reaches the pair from this one
      abbrev From : Pair → Pair → Type 0
      From q r = StandsAny s r.shape e × Leads s g (pair_of n r.shape) q

      decide_from : (q r : Pair) → Decided (From q r)
      decide_from q r = go (decide_stands s loaded r.shape e)
        where
          go : Decided (StandsAny s r.shape e) → Decided (From q r)
          go (inr none) = inr (λ h. none h.0)
          go (inl (sign, st)) = decide_both (inl (sign, st)) (decide_leads (pair_of n r.shape) q (λ x leads. there x (r.shape, sign, st, leads)))

      decide_reached : (q : Pair) → Decided (Reaches s g n e q)
      decide_reached q = elim (decide_one (From q) (decide_from q) pairs) [
        | inl (r, c, ((sign, st), leads)) ↦ inl (r.shape, sign, st, leads)
        | inr none ↦ inr (λ (i, sign, st, leads). none (pair_of n i, there (pair_of n i) (i, sign, st, here), ((sign, st), leads)))
      ]

      -- and a node with an expression that is not decided reaches one
      pub reaches_wide : WidthIsOne → (terms : List Term) (budget : ℕ) → ¬ IsDecided s terms g budget n e → ReachesWide s terms g budget n e
      reaches_wide law terms budget = one_wide law terms budget (Reaches s g n e) decide_reached there
