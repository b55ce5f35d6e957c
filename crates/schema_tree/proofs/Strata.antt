-- The stratum of each Shape is the least stratification, and there is one only without a cycle that has a negative edge.
use Rattle.std.proofs.Common.{◌≡◌, ℕ, suc, ◌+◌, ◌<◌, ◌≤◌, ◌⊎◌, inl, inr, List, [], ◌∷◌, refl, arith, sym, subst, length, Bool, true, false, eqb}
use Rattle.std.proofs.lemmas.Bool.{cases_lt, eqb-true}
use Rattle.std.specs.Prelude.{Contains}
use Rattle.std.specs.List.{IsDistinct}
use Rattle.std.proofs.lemmas.Map.Steps.{length-le_from_distinct_below}
use Rattle.std.proofs.lemmas.Map.Views.{Contains-from_any}
use Rattle.lists.proofs.Members.{not_in_none, in_rest}
use Rattle.std.proofs.lemmas.Option.{slice_get_within}
use Rattle.schema_tree.specs.declared.schema.Schema.{Schema}
use Rattle.schema_tree.specs.declared.schema.ShapeId.{ShapeId}
use Rattle.schema_tree.specs.declared.schema.ExprId.{ExprId}
use Rattle.schema_tree.specs.declared.schema.Expr.TheVariants as Exprs
use Rattle.schema_tree.specs.Loaded.{IsLoaded}
use Rattle.schema_tree.specs.Edges.{StandsIn, itself, in_and, in_or, in_not, Edge, IsNegative, level, IsStratified, Path, stay, by_any, by_negative, IsStratum}
use Rattle.schema_tree.specs.Cycles.{HasNegatedCycle, AreLinked, AreLinkedBadly, IsNegatedCycle}
use Rattle.lists.proofs.Quantifiers.{all_of}
use Rattle.schema_tree.proofs.Below.{past_end}

-- an edge leads from a Shape that is there
pub edge_from : (s : Schema) (i j : ShapeId) → Edge s i j → i.0 < length s.shapes
edge_from s i j e = slice_get_within s.shapes i.0 e.shape e.is

module _ (s : Schema) (loaded : IsLoaded s) where
  -- what stands in an entry is a Shape that is there
  pub stands_there : (t : ShapeId) (e : ExprId) (sign : Bool) → StandsIn s t e sign → t.0 < length s.shapes
  stands_there t e sign (itself is) = loaded.refers e (Exprs.Shape t) is
  stands_there t e sign (in_and es d is c rest) = stands_there t d sign rest
  stands_there t e sign (in_or es d is c rest) = stands_there t d sign rest
  stands_there t e _ (in_not {sign = b} d is rest) = stands_there t d b rest

-- an edge before the edges of a path
link :
    {s : Schema} (i j t : ShapeId) → Edge s i j → (j ≡ t) ⊎ ((js : List ShapeId) × AreLinked s j js t) →
    (js : List ShapeId) × AreLinked s i js t
link {s} i j t e (inl same) = ([], subst (λ z. Edge s i z) same e)
link i j t e (inr (js, rest)) = (j ∷ js, (e, rest))

-- a negative edge before them
link_badly :
    {s : Schema} (i j t : ShapeId) (e : Edge s i j) → IsNegative e → (j ≡ t) ⊎ ((js : List ShapeId) × AreLinked s j js t) →
    (js : List ShapeId) × AreLinkedBadly s i js t
link_badly {s} i j t e negative (inl same) = ([], subst (λ z. (u : Edge s i z) × IsNegative u) same (e, negative))
link_badly i j t e negative (inr (js, rest)) = (j ∷ js, inl ((e, negative), rest))

module _ (s : Schema) where
  -- along a path a stratification falls by what the path counts
  pub path_falls : (f : List ℕ) → IsStratified s f → (i t : ShapeId) (k : ℕ) → Path s i t k → level f t + k ≤ level f i
  path_falls f strat i t k stay = omega arith
  path_falls f strat i t k (by_any j e rest) = let a = path_falls f strat j t k rest in let b = strat.never_rises i j e in omega arith
  path_falls f strat i t _ (by_negative {k = m} j e negative rest) = let a = path_falls f strat j t m rest in let b = strat.falls i j e negative in omega arith

  pub stratified_no_cycle : (f : List ℕ) → IsStratified s f → ¬ HasNegatedCycle s
  stratified_no_cycle f strat (i, k, path) = let h = path_falls f strat i i (suc k) path in absurd (omega arith)

  -- one path after another
  pub join_paths : (i j t : ShapeId) (k m : ℕ) → Path s i j k → Path s j t m → Path s i t (k + m)
  join_paths i j t k m stay rest = subst (λ z. Path s i t z) (let e : m ≡ 0 + m = omega arith in e) rest
  join_paths i j t k m (by_any u e more) rest = by_any u e (join_paths u j t k m more rest)
  join_paths i j t _ m (by_negative {k = k} u e negative more) rest =
      subst (λ z. Path s i t z) (let e : 1 + (k + m) ≡ (1 + k) + m = omega arith in e) (by_negative u e negative (join_paths u j t k m more rest))

  -- the strata are a stratification
  pub stratum_stratified : (f : List ℕ) → IsStratum s f → IsStratified s f
  stratum_stratified f (size, at) = record {
    one_each = size;
    never_rises = λ i j e. elim (cases_lt j.0 (length s.shapes)) [
      | inl lt ↦ (let (t, path) = (at j lt).0 in (at i (edge_from s i j e)).1 t (level f j) (by_any j e path))
      | inr ge ↦ (let z = past_end f j.0 (omega arith) in omega arith)
    ];
    falls = λ i j e negative. elim (cases_lt j.0 (length s.shapes)) [
      | inl lt ↦ (let (t, path) = (at j lt).0 in let h = (at i (edge_from s i j e)).1 t (1 + level f j) (by_negative j e negative path) in omega arith)
      | inr ge ↦ (let z = past_end f j.0 (omega arith) in let h = (at i (edge_from s i j e)).1 j (1 + 0) (by_negative j e negative stay) in omega arith)
    ];
  }

  -- and below every other one
  pub stratum_least : (f h : List ℕ) → IsStratum s f → IsStratified s h → (i : ShapeId) → level f i ≤ level h i
  stratum_least f h (size, at) strat i = elim (cases_lt i.0 (length s.shapes)) [
    | inl lt ↦ (let (t, path) = (at i lt).0 in let fall = path_falls h strat i t (level f i) path in omega arith)
    | inr ge ↦ (let z = past_end f i.0 (omega arith) in omega arith)
  ]

  -- a stratification whose numbers are all had by paths gives the strata
  pub reached_stratum :
      (f : List ℕ) → IsStratified s f → ((i : ShapeId) → i.0 < length s.shapes → (t : ShapeId) × Path s i t (level f i)) → IsStratum s f
  reached_stratum f strat reached =
      (strat.one_each, λ i lt. (reached i lt, λ t m path. (let h = path_falls f strat i t m path in omega arith)))

  -- a list that is a cycle with a negative edge is one
  linked_path : (i : ShapeId) (js : List ShapeId) (end : ShapeId) → AreLinked s i js end → Path s i end 0
  linked_path i [] end e = by_any end e stay
  linked_path i (j ∷ js) end (e, rest) = by_any j e (linked_path j js end rest)

  badly_path : (i : ShapeId) (js : List ShapeId) (end : ShapeId) → AreLinkedBadly s i js end → Path s i end 1
  badly_path i [] end (e, negative) = by_negative end e negative stay
  badly_path i (j ∷ js) end (inl (bad, rest)) = by_negative j bad.0 bad.1 (linked_path j js end rest)
  badly_path i (j ∷ js) end (inr (e, rest)) = by_any j e (badly_path j js end rest)

  pub cycle_is_one : (is : List ShapeId) → IsNegatedCycle s is → HasNegatedCycle s
  cycle_is_one [] h = absurd h
  cycle_is_one (i ∷ is) h = (i, 0, badly_path i is i h)

  -- a path stays where it is, or its edges link the Shapes on it
  path_linked : (i t : ShapeId) (k : ℕ) → Path s i t k → (i ≡ t) ⊎ ((js : List ShapeId) × AreLinked s i js t)
  path_linked i t k stay = inl refl
  path_linked i t k (by_any j e rest) = inr (link i j t e (path_linked j t k rest))
  path_linked i t _ (by_negative {k = m} j e negative rest) = inr (link i j t e (path_linked j t m rest))

  -- and one on which a negative edge is counted links them badly
  path_badly : (i t : ShapeId) (k : ℕ) → Path s i t k → 0 < k → (js : List ShapeId) × AreLinkedBadly s i js t
  path_badly i t k stay pos = absurd (omega arith)
  path_badly i t k (by_any j e rest) pos = let (js, bad) = path_badly j t k rest pos in (j ∷ js, inr (e, bad))
  path_badly i t _ (by_negative {k = m} j e negative rest) pos = link_badly i j t e negative (path_linked j t m rest)

  pub one_is_cycle : HasNegatedCycle s → (is : List ShapeId) × IsNegatedCycle s is
  one_is_cycle (i, k, path) = let (js, bad) = path_badly i i (suc k) path (omega arith) in (i ∷ js, bad)

  -- the Shapes from which the counted edges of a path lead
  pub record IsSourced (i : ShapeId) (k : ℕ) : Type 0 where
    pub from : List ℕ
    pub size : length from ≡ k
    pub each : (a : ℕ) → Contains from a → (a < length s.shapes) × ((m : ℕ) × Path s i (record { 0 = a }) m)
    pub distinct : IsDistinct eqb from

  pub sources : ¬ HasNegatedCycle s → (i t : ShapeId) (k : ℕ) → Path s i t k → IsSourced i k
  unfolding IsDistinct
  sources none i t k stay = record { from = []; size = refl; each = λ a c. absurd (not_in_none a c); distinct = tt }
  sources none i t k (by_any j e rest) =
      let r = sources none j t k rest in
      record { from = r.from; size = r.size; each = λ a c. (let t = r.each a c in (t.0, (t.1.0, by_any j e t.1.1))); distinct = r.distinct }
  sources none i t _ (by_negative {k = m} j e negative rest) =
      let r = sources none j t m rest in
      record {
        from = i.0 ∷ r.from;
        size = (let h = r.size in omega arith);
        each = λ a c. elim (in_rest i.0 r.from a c) [
          | inl is ↦ subst (λ a. (a < length s.shapes) × ((m : ℕ) × Path s i (record { 0 = a }) m)) is (edge_from s i j e, (0, stay))
          | inr later ↦ (let t = r.each a later in (t.0, (t.1.0, by_any j e t.1.1)))
        ];
        distinct = (all_of (λ a. eqb i.0 a ≡ false) r.from (λ a c. new (r.each a c).1.0 a (r.each a c).1.1 (eqb i.0 a) refl), r.distinct);
      }
    where
      new : (n a : ℕ) → Path s j (record { 0 = a }) n → (b : Bool) → eqb i.0 a ≡ b → b ≡ false
      new n a path false e = refl
      new n a path true is =
          let same : i.0 ≡ a = eqb-true i.0 a is in
          let back : Path s j i n = subst (λ z. Path s j (record { 0 = z }) n) (sym same) path in
          absurd (none (i, n, subst (λ z. Path s i i z) (let e : 1 + n ≡ suc n = omega arith in e) (by_negative j e negative back)))

  -- without such a cycle no path counts more edges than there are Shapes
  pub path_short : ¬ HasNegatedCycle s → (i t : ShapeId) (k : ℕ) → Path s i t k → k ≤ length s.shapes
  path_short none i t k path =
      let r = sources none i t k path in
      let h = length-le_from_distinct_below r.from (length s.shapes) r.distinct
      (λ q any. (r.each q (Contains-from_any {eq = eqb} (λ x y e. eqb-true x y e) q r.from any)).0) in
      let size = r.size in
      omega arith
