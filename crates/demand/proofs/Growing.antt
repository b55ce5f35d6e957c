-- Pairs that are put into a table, one after another.
use Rattle.lists.proofs.Additions.{adds_distinct, adds_grows, kept_at}
use Rattle.demand.proofs.Taken.{in_more, take_in}
use Rattle.std.proofs.Common.{◌≡◌, ◌∙◌, ℕ, ◌<◌, ◌+◌, ◌⊎◌, ◌++◌, inl, inr, take, List, [], ◌∷◌, refl, arith, sym, ap, subst, length, get_or, map, ◌≤◌}
use Rattle.std.proofs.lemmas.List.{get_or-map, length-append, length-map, take_all}
use Rattle.std.proofs.lemmas.List.Elements.{Contains-append_cases, Contains-append_left, Contains-append_right}
use Rattle.std.specs.Prelude.{Contains, slice_get}
use Rattle.lists.specs.Additions.{Adds}
use Rattle.lists.specs.Distinct.{AreDistinct}
use Rattle.demand.specs.Orders.{max_pairs}
use Rattle.schema_tree.specs.declared.schema.Pair.{Pair}
use Rattle.lists.proofs.Members.{in_one, is_first}
use Rattle.schema_tree.specs.Entries.{pair_of}
use Rattle.schema_tree.specs.declared.schema.ShapeId.{ShapeId}
use Rattle.rdf_terms.specs.declared.terms.TermId.{TermId}
use Rattle.demand.specs.Closing.{AreMany, Grows, StopsAt, StopsOver}
use Rattle.demand.specs.declared.error.DemandError.{DemandError}
use Rattle.demand.specs.declared.error.DemandError.TheVariants as Errors

-- one more pair is put in
pub grow_one : (old xs mid new : List Pair) (i : ℕ) (d : Pair) → i < length xs → Grows old (take i xs) mid → Adds mid (get_or xs i d) new → Grows old (take (i + 1) xs) new
grow_one old xs mid new i d inside h (inl (held, same)) = record {
  kept = λ j p at. ap (λ ys. slice_get ys j) same ∙ h.kept j p at;
  same = λ q. (
    (λ c. elim ((h.same q).0 (subst (λ ys. Contains ys q) same c)) [ inl o ↦ inl o | inr t ↦ inr ((in_more xs i d q inside).1 (inl t)) ]),
    (λ c. subst (λ ys. Contains ys q) (sym same) (elim c [
      | inl o ↦ (h.same q).1 (inl o)
      | inr t ↦ elim ((in_more xs i d q inside).0 t) [ inl l ↦ (h.same q).1 (inr l) | inr e ↦ subst (λ z. Contains mid z) e held ]
    ])),
  );
}
grow_one old xs mid new i d inside h (inr (fresh, more)) = record {
  kept = λ j p at. kept_at mid new j p (adds_grows mid new (get_or xs i d) (inr (fresh, more))) (h.kept j p at);
  same = λ q. (
    (λ c. elim (Contains-append_cases mid (get_or xs i d ∷ []) q (subst (λ ys. Contains ys q) more c)) [
      | inl m ↦ elim ((h.same q).0 m) [ inl o ↦ inl o | inr t ↦ inr ((in_more xs i d q inside).1 (inl t)) ]
      | inr e ↦ inr ((in_more xs i d q inside).1 (inr (in_one (get_or xs i d) q e)))
    ]),
    (λ c. subst (λ ys. Contains ys q) (sym more) (elim c [
      | inl o ↦ Contains-append_left mid (get_or xs i d ∷ []) q ((h.same q).1 (inl o))
      | inr t ↦ elim ((in_more xs i d q inside).0 t) [
        | inl l ↦ Contains-append_left mid (get_or xs i d ∷ []) q ((h.same q).1 (inr l))
        | inr e ↦ Contains-append_right mid (get_or xs i d ∷ []) q (subst (λ z. Contains (get_or xs i d ∷ []) z) e (is_first (get_or xs i d) []))
      ]
    ])),
  );
}

pub grow_none : (old : List Pair) → Grows old [] old
grow_none old = record { kept = λ j p at. at; same = λ q. (inl, (λ c. elim c [ inl o ↦ o | inr n ↦ absurd (let (i, l, e) = n in omega arith) ])) }

-- a new pair where there is no more room
overflow : (old xs mid : List Pair) (i : ℕ) (d : Pair) → i < length xs → Grows old (take i xs) mid → AreDistinct mid → ¬ Contains mid (get_or xs i d) → length mid ≡ max_pairs →
    ((q : Pair) → Contains (take (i + 1) xs) q → Contains xs q) → AreMany (λ q. Contains old q ⊎ Contains xs q)
overflow old xs mid i d inside h distinct none full wider = record {
  pairs = mid ++ get_or xs i d ∷ [];
  distinct = adds_distinct mid (mid ++ get_or xs i d ∷ []) (get_or xs i d) distinct (inr (none, refl));
  many = (let l = length-append mid (get_or xs i d ∷ []) in omega (arith, l, full));
  all = λ q c. elim (Contains-append_cases mid (get_or xs i d ∷ []) q c) [
    | inl m ↦ elim ((h.same q).0 m) [ inl o ↦ inl o | inr t ↦ inr (wider q ((in_more xs i d q inside).1 (inl t))) ]
    | inr e ↦ inr (wider q ((in_more xs i d q inside).1 (inr (in_one (get_or xs i d) q e))))
  ];
}

pub overfull : (old xs mid : List Pair) (i : ℕ) (d : Pair) → i < length xs → Grows old (take i xs) mid → (e : DemandError) → StopsAt mid (get_or xs i d) e → StopsOver old xs e
overfull old xs mid i d inside h Errors.Pairs stops = overflow old xs mid i d inside h stops.distinct stops.fresh stops.full (λ q c. take_in xs (i + 1) q c)
overfull old xs mid i d inside h Errors.Memory stops = tt

-- the node with each Shape, one after another
module _ (n : TermId) (shapes : List ShapeId) (i : ℕ) (d : ShapeId) (inside : i < length shapes) (old mid : List Pair) (h : Grows old (take i (map (pair_of n) shapes)) mid) where
  within : i < length (map (pair_of n) shapes)
  within = subst (λ k. i < k) (sym (length-map shapes (pair_of n))) inside

  next_is : pair_of n (get_or shapes i d) ≡ get_or (map (pair_of n) shapes) i (pair_of n d)
  next_is = sym (get_or-map (pair_of n) shapes i d (pair_of n d) inside)

  pub node_more : (new : List Pair) → Adds mid (pair_of n (get_or shapes i d)) new → Grows old (take (i + 1) (map (pair_of n) shapes)) new
  node_more new adds = grow_one old (map (pair_of n) shapes) mid new i (pair_of n d) within h (subst (λ q. Adds mid q new) next_is adds)

  pub node_stops : (e : DemandError) → StopsAt mid (pair_of n (get_or shapes i d)) e → StopsOver old (map (pair_of n) shapes) e
  node_stops e stops = overfull old (map (pair_of n) shapes) mid i (pair_of n d) within h e (subst (λ q. StopsAt mid q e) next_is stops)

-- all were put in
pub node_done : (n : TermId) (shapes : List ShapeId) (i : ℕ) (old new : List Pair) → length shapes ≤ i → Grows old (take i (map (pair_of n) shapes)) new → Grows old (map (pair_of n) shapes) new
node_done n shapes i old new past h = subst (λ xs. Grows old xs new) (take_all i (map (pair_of n) shapes) (subst (λ k. k ≤ i) (sym (length-map shapes (pair_of n))) past)) h
