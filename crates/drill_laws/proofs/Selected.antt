-- The map of a drill is resolved over its schema and any graph of few terms.
use Rattle.std.proofs.Common.{◌≡◌, ℕ, zero, suc, ◌+◌, ◌<◌, ◌≤◌, List, [], ◌∷◌, ◌++◌, refl, sym, ap, subst, arith, length, map, inl, inr, ◌⊎◌}
use Rattle.std.specs.Prelude.{Contains}
use Rattle.std.specs.List.{range_with_len}
use Rattle.std.specs.List.Sorted.{IsStrictlySortedBy}
use Rattle.std.proofs.lemmas.List.{length-map, map-id}
use Rattle.std.proofs.lemmas.List.FromFn.{length-map-range_with_len}
use Rattle.node_constraint.specs.Constraint.{Constraint}
use Rattle.lists.specs.Additions.{AddsAll, none as nothing_added}
use Rattle.lists.specs.Distinct.{AreDistinct}
use Rattle.lists.proofs.Additions.{all_one}
use Rattle.lists.proofs.Among.{few_among}
use Rattle.lists.proofs.Halving.{one_place}
use Rattle.lists.proofs.Members.{from_map, in_map, is_first, is_later, not_in_none}
use Rattle.rdf_terms.specs.Order.{compare_at}
use Rattle.rdf_terms.specs.declared.terms.Term.{Term}
use Rattle.rdf_terms.specs.declared.terms.TermId.{TermId}
use Rattle.rdf_terms.specs.declared.terms.Triple.{Triple}
use Rattle.rdf_terms.proofs.Orders.{id_total}
use Rattle.graph_index.specs.Laws.{IsOfTable}
use Rattle.schema_tree.specs.declared.schema.Schema.{Schema}
use Rattle.schema_tree.specs.Loaded.{HasTarget}
use Rattle.shape_map.specs.declared.error.MapError.{MapError}
use Rattle.shape_map.specs.declared.error.MapError.TheVariants as error
use Rattle.shape_map.specs.declared.items.Item.{Item}
use Rattle.shape_map.specs.declared.resolve.Association.{Association}
use Rattle.shape_map.specs.Selection.{AreNodes, Ends, Outcome, Refuses, Resolves, Selects, TakesNodes, all, association, more, refused, selected, stops}
use Rattle.shex_drill.specs.Map.{map_item}
use Rattle.shex_drill.specs.Schema.{item_label}
use Rattle.drill_laws.proofs.Standing.{item_schema}

-- ---- numbers below a bound

first_or_later : (a k : ℕ) → a ≤ k → (a ≡ k) ⊎ (a + 1 ≤ k)
first_or_later a k low = grind arith

numbers_below : (n k a : ℕ) → a ≤ k → k < a + n → Contains (range_with_len a n) k
numbers_below zero k a low high = absurd (omega (arith, low, high))
numbers_below (suc n) k a low high = by (first_or_later a k low) (λ l. numbers_below n k (a + 1) l (omega (arith, high)))
  where
    by : (a ≡ k) ⊎ (a + 1 ≤ k) → (a + 1 ≤ k → Contains (range_with_len (a + 1) n) k) → Contains (a ∷ range_with_len (a + 1) n) k
    by (inl e) later = subst (λ z. Contains (a ∷ range_with_len (a + 1) n) z) e (is_first a (range_with_len (a + 1) n))
    by (inr l) later = is_later a (range_with_len (a + 1) n) k (later l)

among : {X : Type 0} (f : ℕ → X) (n : ℕ) (x : X) → ((k : ℕ) × (k < n) × (f k ≡ x)) → Contains (map f (range_with_len 0 n)) x
among f n x (k, l, e) = subst (λ z. Contains (map f (range_with_len 0 n)) z) e (in_map f (range_with_len 0 n) k (numbers_below n k 0 (omega arith) (omega (arith, l))))

-- distinct items that are made of numbers below n are at most n
pub made_few : {X : Type 0} (f : ℕ → X) (n : ℕ) (xs : List X) → AreDistinct xs → ((x : X) → Contains xs x → (k : ℕ) × (k < n) × (f k ≡ x)) → length xs ≤ n
made_few f n xs once made =
    let few = few_among xs (map f (range_with_len 0 n)) once (λ x c. among f n x (made x c)) in
    let size = length-map-range_with_len f 0 n in
    omega (arith, few, size)

abbrev node_of : ℕ → TermId
node_of k = record { 0 = k }

nodes_once : (terms : List Term) (ns : List TermId) → IsStrictlySortedBy (compare_at terms) ns → AreDistinct ns
nodes_once terms ns up i j p a b =
    one_place (compare_at terms) (id_total terms) (λ q. q) ns (subst (IsStrictlySortedBy (compare_at terms)) (sym (map-id ns)) up) i j p p a b refl

-- ---- the table takes up nothing

none_there : (ts : List Term) → ((t : Term) → Contains ts t → Contains {X = Term} [] t) → ts ≡ []
none_there [] h = refl
none_there (t ∷ ts) h = absurd (not_in_none t (h t (is_first t ts)))

same_table : (old terms : List Term) → TakesNodes old (map_item ∷ []) terms → terms ≡ old
same_table old terms takes =
    let none : takes.nodes ≡ [] = none_there takes.nodes (λ t c. (takes.ordered.same t).0 c) in
    all_one old terms old [] (subst (λ ns. AddsAll old ns terms) none takes.taken) nothing_added

takes_none : (old : List Term) → TakesNodes old (map_item ∷ []) old
unfolding IsStrictlySortedBy
takes_none old = record { nodes = []; ordered = record { rising = tt; same = λ t. ((λ c. c), (λ c. c)) }; taken = nothing_added }

-- ---- how the map ends

module _ (s : Schema) (graph : List Triple) (terms : List Term) where
  opened : (so : List Association) (i : Item) (is : List Item) (o : Outcome) → Ends s graph terms so (i ∷ is) o →
      ((xs : List Association) × Selects s graph terms i xs × Ends s graph terms (so ++ xs) is o) ⊎ ((e : MapError) × (o ≡ refused e) × Refuses s graph terms so i e)
  opened so i is o (more xs selects few rest) = inl (xs, selects, rest)
  opened so i is _ (stops {e = e} h) = inr (e, refl, h)

  closed : (so : List Association) (o : Outcome) → Ends s graph terms so [] o → o ≡ selected so terms
  closed so _ all = refl

same_error : (d e : MapError) → refused d ≡ refused e → d ≡ e
same_error d e h = cc

same_associations : (xs ys : List Association) (a b : List Term) → selected xs a ≡ selected ys b → xs ≡ ys
same_associations xs ys a b h = cc

module _ (tags : Constraint) (graph : List Triple) (old : List Term) (few : length old ≤ 600002) (below : (t : Triple) → Contains graph t → IsOfTable old t) where
  abbrev s : Schema
  s = item_schema item_label tags

  has_target : HasTarget s map_item.target
  has_target = (record { 0 = 0 }, is_first (item_label, record { 0 = 0 }) [])

  -- the nodes of the map are of the table
  node_below : (ns : List TermId) → AreNodes old graph map_item.selector ns → (n : TermId) → Contains ns n → n.0 < length old
  node_below ns (up, exactly) n c =
      let f = (exactly n).0 c in
      let l = (below f.triple f.held).subject in
      let e : f.triple.s.0 ≡ n.0 = ap (λ (z : TermId). z.0) f.focus in
      omega (arith, l, e)

  nodes_few : (ns : List TermId) → AreNodes old graph map_item.selector ns → length ns ≤ 600002
  nodes_few ns (up, exactly) =
      let l = made_few node_of (length old) ns (nodes_once old ns up) (λ n c. (n.0, node_below ns (up, exactly) n c, refl)) in
      omega (arith, l, few)

  selected_few : (xs : List Association) → Selects s graph old map_item xs → length xs ≤ 600002
  selected_few xs x =
      let l = nodes_few x.nodes x.found in
      let e : length xs ≡ length (map (association map_item x.expr) x.nodes) = ap length x.made in
      let m = length-map x.nodes (association map_item x.expr) in
      omega (arith, l, e, m)

  refuses_none : (e : MapError) → Refuses s graph old [] map_item e → ⊥
  refuses_none error.NotUtf8 h = h
  refuses_none (error.Syntax at) h = h
  refuses_none (error.Prefix at) h = h
  refuses_none (error.Label l) h = h.0 has_target
  refuses_none error.NoStart h = h.0 has_target
  refuses_none error.Many (xs, x, many) = let l = selected_few xs x in let most : 1000000 < length xs = many in omega (arith, l, most)
  refuses_none error.Memory h = h
  refuses_none error.Full h = h

  no_refusal : (e : MapError) → Ends s graph old [] (map_item ∷ []) (refused e) → ⊥
  no_refusal e ends = by (opened s graph old [] map_item [] (refused e) ends)
    where
      by : ((xs : List Association) × Selects s graph old map_item xs × Ends s graph old ([] ++ xs) [] (refused e)) ⊎ ((d : MapError) × (refused e ≡ refused d) × Refuses s graph old [] map_item d) → ⊥
      by (inl (xs, x, rest)) = let bad : refused e ≡ selected xs old = closed s graph old xs (refused e) rest in cc
      by (inr (d, same, h)) = refuses_none d h

  -- the map is not refused
  pub resolves : (e : MapError) → Resolves s graph old (map_item ∷ []) (refused e) → ⊥
  resolves e (inl (terms, ends)) = no_refusal e (subst (λ ts. Ends s graph ts [] (map_item ∷ []) (refused e)) (same_table old terms ends.takes) ends.ends)
  resolves e (inr (above, is)) = let l : 4294967295 < length old = above old (takes_none old) in omega (arith, l, few)

  -- each association is of a node of the table
  pub association_below : (xs : List Association) (terms : List Term) → Resolves s graph old (map_item ∷ []) (selected xs terms) → (a : Association) → Contains xs a → a.node.0 < length old
  association_below xs terms ends a c =
      by (opened s graph old [] map_item [] (selected xs terms) (subst (λ ts. Ends s graph ts [] (map_item ∷ []) (selected xs terms)) (same_table old terms ends.takes) ends.ends))
    where
      made : (ys : List Association) → Selects s graph old map_item ys → Contains ys a → a.node.0 < length old
      made ys x h =
          let (n, held, e) = from_map (association map_item x.expr) x.nodes a (subst (λ zs. Contains zs a) x.made h) in
          let l = node_below x.nodes x.found n held in
          let same : n.0 ≡ a.node.0 = ap (λ (z : Association). z.node.0) e in
          omega (arith, l, same)

      by : ((ys : List Association) × Selects s graph old map_item ys × Ends s graph old ([] ++ ys) [] (selected xs terms)) ⊎
          ((e : MapError) × (selected xs terms ≡ refused e) × Refuses s graph old [] map_item e) → a.node.0 < length old
      by (inl (ys, x, rest)) = made ys x (subst (λ zs. Contains zs a) (same_associations xs ys terms old (closed s graph old ys (selected xs terms) rest)) c)
      by (inr (e, bad, h)) = absurd (let apart : ⊥ = cc in apart)
