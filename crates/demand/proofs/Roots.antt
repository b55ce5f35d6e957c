-- The pairs at which roots start.
use Rattle.demand.proofs.Taken.{in_more, take_in}
use Rattle.std.proofs.Common.{◌≡◌, ◌∙◌, ℕ, ◌<◌, ◌≤◌, ◌+◌, ◌⊎◌, inl, inr, take, List, [], refl, arith, sym, ap, subst, length, get_or, map}
use Rattle.std.proofs.lemmas.List.{get_or-map, length-map, take_all}
use Rattle.std.proofs.lemmas.List.Sorted.{Contains-permutation, IsPermutation-sym}
use Rattle.std.specs.List.Sorted.{IsPermutation}
use Rattle.std.specs.Prelude.{◌↔◌, Contains}
use Rattle.rdf_terms.specs.declared.terms.TermId.{TermId}
use Rattle.schema_tree.specs.declared.schema.ExprId.{ExprId}
use Rattle.schema_tree.specs.declared.schema.Pair.{Pair}
use Rattle.schema_tree.specs.declared.schema.Schema.{Schema}
use Rattle.schema_tree.specs.declared.schema.ShapeId.{ShapeId}
use Rattle.schema_tree.specs.Entries.{pair_of}
use Rattle.lists.proofs.Members.{from_flat_map, from_map, in_flat_map, in_map}
use Rattle.demand.specs.Closing.{AddsStarts, Grows, Starts, StartsAt, StopsAtStart, StopsFor, StopsOver}
use Rattle.demand.specs.Demand.{root, roots_of}
use Rattle.demand.specs.Links.{AreShapesIn, StandsAny}
use Rattle.demand.specs.declared.error.DemandError.{DemandError}
use Rattle.demand.specs.declared.error.DemandError.TheVariants as Errors
use Rattle.demand.specs.declared.reach.Root.{Root}

starts_from : (s : Schema) (r : Root) (shapes : List ShapeId) → AreShapesIn s r.expr shapes → (q : Pair) → Contains (map (pair_of r.node) shapes) q ↔ StartsAt s r q
starts_from s r shapes are q = (
  (λ c. let (i, held, same) = from_map (pair_of r.node) shapes q c in (sym (ap (λ u. u.node) same), subst (λ u. StandsAny s u.shape r.expr) same ((are i).0 held))),
  (λ (node, st). subst (λ u. Contains (map (pair_of r.node) shapes) u) (ap (λ m. pair_of m q.shape) (sym node)) (in_map (pair_of r.node) shapes q.shape ((are q.shape).1 st))),
)

pub start_none : (s : Schema) (seen : List Pair) → AddsStarts s [] seen seen
start_none s seen q = (inl, (λ c. elim c [ inl o ↦ o | inr t ↦ absurd (let (r, held, st) = t in let (i, l, e) = held in omega arith) ]))

pub many_of : (P Q : Pair → Type 0) → ((q : Pair) → P q → Q q) → (e : DemandError) → StopsFor P e → StopsFor Q e
many_of P Q on Errors.Pairs h = record { pairs = h.pairs; distinct = h.distinct; many = h.many; all = λ q c. on q (h.all q c) }
many_of P Q on Errors.Memory h = tt

-- the next root is r, in whose expression these Shapes stand
module _ (s : Schema) (roots : List Root) (i : ℕ) (d r : Root) (inside : i < length roots) (is : get_or roots i d ≡ r) (shapes : List ShapeId)
    (are : AreShapesIn s r.expr shapes) (old mid : List Pair) (h : AddsStarts s (take i roots) old mid) where
  pub start_more : (new : List Pair) → Grows mid (map (pair_of r.node) shapes) new → AddsStarts s (take (i + 1) roots) old new
  start_more new grows q = (
    (λ c. elim ((grows.same q).0 c) [
      | inl m ↦ elim ((h q).0 m) [ inl o ↦ inl o | inr t ↦ inr (let (x, held, st) = t in (x, (in_more roots i d x inside).1 (inl held), st)) ]
      | inr p ↦ inr (r, (in_more roots i d r inside).1 (inr is), (starts_from s r shapes are q).0 p)
    ]),
    (λ c. (grows.same q).1 (elim c [
      | inl o ↦ inl ((h q).1 (inl o))
      | inr t ↦ (let (x, held, st) = t in elim ((in_more roots i d x inside).0 held) [
        | inl l ↦ inl ((h q).1 (inr (x, l, st)))
        | inr e ↦ inr ((starts_from s r shapes are q).1 (subst (λ u. StartsAt s u q) (sym e ∙ is) st))
      ])
    ])),
  )

  pub start_stops : (e : DemandError) → StopsOver mid (map (pair_of r.node) shapes) e → StopsAtStart s roots old e
  start_stops e stops = many_of _ _ (λ q c. elim c [
    | inl m ↦ elim ((h q).0 m) [ inl o ↦ inl o | inr t ↦ inr (let (x, held, st) = t in (x, take_in roots i x held, st)) ]
    | inr p ↦ inr (r, take_in roots (i + 1) r ((in_more roots i d r inside).1 (inr is)), (starts_from s r shapes are q).0 p)
  ]) e stops

-- each of the nodes at the next expression
module _ (s : Schema) (nodes : List TermId) (exprs : List ExprId) (i : ℕ) (d : ExprId) (inside : i < length exprs) (old mid : List Pair)
    (h : AddsStarts s (roots_of nodes (take i exprs)) old mid) where
  abbrev pub at : ExprId → List Root
  at e = map (root e) nodes

  next_roots : (r : Root) → Contains (roots_of nodes (take (i + 1) exprs)) r ↔ (Contains (roots_of nodes (take i exprs)) r ⊎ Contains (at (get_or exprs i d)) r)
  next_roots r = (
    (λ c. let (e, held, of) = from_flat_map at (take (i + 1) exprs) r c in elim ((in_more exprs i d e inside).0 held) [
      | inl l ↦ inl (in_flat_map at (take i exprs) e r l of)
      | inr same ↦ inr (subst (λ u. Contains (at u) r) (sym same) of)
    ]),
    (λ c. elim c [
      | inl l ↦ (let (e, held, of) = from_flat_map at (take i exprs) r l in in_flat_map at (take (i + 1) exprs) e r ((in_more exprs i d e inside).1 (inl held)) of)
      | inr of ↦ in_flat_map at (take (i + 1) exprs) (get_or exprs i d) r ((in_more exprs i d (get_or exprs i d) inside).1 (inr refl)) of
    ]),
  )

  whole_roots : (r : Root) → Contains (roots_of nodes (take (i + 1) exprs)) r → Contains (roots_of nodes exprs) r
  whole_roots r c = let (e, held, of) = from_flat_map at (take (i + 1) exprs) r c in in_flat_map at exprs e r (take_in exprs (i + 1) e held) of

  pub each_more : (new : List Pair) → AddsStarts s (at (get_or exprs i d)) mid new → AddsStarts s (roots_of nodes (take (i + 1) exprs)) old new
  each_more new more q = (
    (λ c. elim ((more q).0 c) [
      | inl m ↦ elim ((h q).0 m) [ inl o ↦ inl o | inr t ↦ inr (let (r, held, st) = t in (r, (next_roots r).1 (inl held), st)) ]
      | inr t ↦ inr (let (r, held, st) = t in (r, (next_roots r).1 (inr held), st))
    ]),
    (λ c. (more q).1 (elim c [
      | inl o ↦ inl ((h q).1 (inl o))
      | inr t ↦ (let (r, held, st) = t in elim ((next_roots r).0 held) [ inl l ↦ inl ((h q).1 (inr (r, l, st))) | inr of ↦ inr (r, of, st) ])
    ])),
  )

  pub each_stops : (e : DemandError) → StopsAtStart s (at (get_or exprs i d)) mid e → StopsAtStart s (roots_of nodes exprs) old e
  each_stops e stops = many_of _ _ (λ q c. elim c [
    | inl m ↦ elim ((h q).0 m) [ inl o ↦ inl o | inr t ↦ inr (let (r, held, st) = t in (r, whole_roots r ((next_roots r).1 (inl held)), st)) ]
    | inr t ↦ inr (let (r, held, st) = t in (r, whole_roots r ((next_roots r).1 (inr held)), st))
  ]) e stops

-- each of the nodes at one expression
module _ (s : Schema) (e : ExprId) (nodes : List TermId) (i : ℕ) (d : TermId) (inside : i < length nodes) (shapes : List ShapeId) (are : AreShapesIn s e shapes)
    (old mid : List Pair) (h : AddsStarts s (take i (map (root e) nodes)) old mid) where
  within : i < length (map (root e) nodes)
  within = subst (λ k. i < k) (sym (length-map nodes (root e))) inside

  pub nodes_more : (new : List Pair) → Grows mid (map (pair_of (get_or nodes i d)) shapes) new → AddsStarts s (take (i + 1) (map (root e) nodes)) old new
  nodes_more new grows = start_more s (map (root e) nodes) i (root e d) (root e (get_or nodes i d)) within (get_or-map (root e) nodes i d (root e d) inside) shapes are old mid h new grows

  pub nodes_stops : (error : DemandError) → StopsOver mid (map (pair_of (get_or nodes i d)) shapes) error → StopsAtStart s (map (root e) nodes) old error
  nodes_stops error stops = start_stops s (map (root e) nodes) i (root e d) (root e (get_or nodes i d)) within (get_or-map (root e) nodes i d (root e d) inside) shapes are old mid h error stops

pub nodes_done : (s : Schema) (e : ExprId) (nodes : List TermId) (i : ℕ) (old new : List Pair) → length nodes ≤ i →
    AddsStarts s (take i (map (root e) nodes)) old new → AddsStarts s (map (root e) nodes) old new
nodes_done s e nodes i old new past h = subst (λ rs. AddsStarts s rs old new) (take_all i (map (root e) nodes) (subst (λ k. k ≤ i) (sym (length-map nodes (root e))) past)) h

pub roots_done : (s : Schema) (roots : List Root) (i : ℕ) (old new : List Pair) → length roots ≤ i → AddsStarts s (take i roots) old new → AddsStarts s roots old new
roots_done s roots i old new past h = subst (λ rs. AddsStarts s rs old new) (take_all i roots past) h

pub each_done : (s : Schema) (nodes : List TermId) (exprs : List ExprId) (i : ℕ) (old new : List Pair) → length exprs ≤ i → AddsStarts s (roots_of nodes (take i exprs)) old new →
    AddsStarts s (roots_of nodes exprs) old new
each_done s nodes exprs i old new past h = subst (λ es. AddsStarts s (roots_of nodes es) old new) (take_all i exprs past) h

-- in whatever order the roots stand
module _ (s : Schema) (roots ordered : List Root) (same : IsPermutation roots ordered) (old : List Pair) where
  start_back : (q : Pair) → Starts s ordered q → Starts s roots q
  start_back q (r, held, st) = (r, Contains-permutation ordered roots r (IsPermutation-sym roots ordered same) held, st)

  pub any_order : (new : List Pair) → AddsStarts s ordered old new → AddsStarts s roots old new
  any_order new h q = (
    (λ c. elim ((h q).0 c) [ inl o ↦ inl o | inr t ↦ inr (start_back q t) ]),
    (λ c. (h q).1 (elim c [ inl o ↦ inl o | inr t ↦ inr (let (r, held, st) = t in (r, Contains-permutation roots ordered r same held, st)) ])),
  )

  pub any_order_stops : (e : DemandError) → StopsAtStart s ordered old e → StopsAtStart s roots old e
  any_order_stops e stops = many_of _ _ (λ q c. elim c [ inl o ↦ inl o | inr t ↦ inr (start_back q t) ]) e stops
