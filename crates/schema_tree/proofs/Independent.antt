-- Two complete typings, by two stratifications and over two lists of terms, say the same of a node that stands in both lists.
use Rattle.std.proofs.Common.{◌≡◌, ℕ, zero, suc, ◌+◌, ◌<◌, ◌≤◌, inl, inr, List, ◌++◌, refl, arith, subst, length, filter, get_or}
use Rattle.std.proofs.lemmas.Bool.{cases_lt, eq-eqb, eqb-true}
use Rattle.std.proofs.lemmas.List.Elements.{Contains-append_cases, Contains-append_left, Contains-append_right}
use Rattle.std.proofs.lemmas.Map.Views.{Contains-from_any}
use Rattle.std.specs.Prelude.{Contains, nat_eq}
use Rattle.std.specs.List.{list_any}
use Rattle.rdf_terms.specs.declared.terms.TermId.{TermId}
use Rattle.rdf_terms.specs.declared.terms.Term.{Term}
use Rattle.rdf_terms.specs.declared.terms.Triple.{Triple}
use Rattle.rdf_terms.specs.Graphs.{same_id}
use Rattle.schema_tree.specs.declared.schema.Schema.{Schema}
use Rattle.schema_tree.specs.declared.schema.Pair.{Pair}
use Rattle.schema_tree.specs.declared.schema.ShapeId.{ShapeId}
use Rattle.schema_tree.specs.declared.schema.ExprId.{ExprId}
use Rattle.schema_tree.specs.Shapes.{ShapeOk}
use Rattle.schema_tree.specs.Satisfies.{Sat}
use Rattle.schema_tree.specs.Edges.{level, IsStratified, Edge, IsNegative}
use Rattle.schema_tree.specs.Typings.{IsOver, IsCorrectAt, IsGreatestAt, IsComplete, IsTheTyping, HaveSame, HoldsEnds, below, top_of}
use Rattle.lists.proofs.Filters.{filter_has, in_filter}
use Rattle.schema_tree.proofs.Monotone.{shape_mono, sat_mono}
use Rattle.schema_tree.proofs.Local.{shape_moves}
use Rattle.schema_tree.specs.Entries.{pair_of}
use Rattle.lists.proofs.Members.{any_true}
use Rattle.rdf_terms.proofs.SameTerms.{same_is}
use Rattle.schema_tree.proofs.Below.{in_below, level_top, out_below}

module _ (s : Schema) (terms : List Term) (g : List Triple) where
  -- what a complete typing T keeps on its stratum b, with no word of the others
  pub record IsLevel (f : List ℕ) (U : List TermId) (T : List Pair) (b : ℕ) : Type 0 where
    pub over : (q : Pair) → Contains T q → level f q.shape ≡ b → Contains U q.node × (q.shape.0 < length s.shapes)
    pub ok : (q : Pair) → Contains T q → level f q.shape ≡ b → ShapeOk s terms g T q.node q.shape
    pub greatest :
        (W : List Pair) → IsOver s f U b W →
        ((q : Pair) → level f q.shape < b → (Contains W q → Contains T q) × (Contains T q → Contains W q)) →
        IsCorrectAt s terms g f W b → (q : Pair) → Contains W q → Contains T q

  level_here : (f : List ℕ) (U : List TermId) (T : List Pair) (b : ℕ) → IsGreatestAt s terms g f U T b → IsLevel f U T b
  level_here f U T b at = record {
    over = λ q c e. (let t = at.over q c in (t.0, t.1));
    ok = at.correct;
    greatest = λ W over agree correct q c. at.greatest W (record {
      over = over;
      agrees = (
        (λ u d. let t = out_below f b W u d in in_below f b T u ((agree u t.1).0 t.0) t.1),
        (λ u d. let t = out_below f b T u d in in_below f b W u ((agree u t.1).1 t.0) t.1),
      );
      correct = correct;
    }) q c;
  }

  level_above :
      (f : List ℕ) → IsStratified s f → (U : List TermId) (T : List Pair) (b k : ℕ) → b < k → IsLevel f U (below f k T) b → IsLevel f U T b
  level_above f strat U T b k lt at = record {
    over = λ q c e. at.over q (in_below f k T q c (omega arith)) e;
    ok = λ q c e. shape_mono s terms g f strat b (below f k T) T (λ u le d. (out_below f k T u d).0) (λ u less d. in_below f k T u d (omega arith)) q.node q.shape e
        (at.ok q (in_below f k T q c (omega arith)) e);
    greatest = λ W over agree correct q c. (out_below f k T q (at.greatest W over
        (λ u less. ((λ d. in_below f k T u ((agree u less).0 d) (omega arith)), λ d. (agree u less).1 (out_below f k T u d).0)) correct q c)).0;
  }

  pub level_of :
      (f : List ℕ) → IsStratified s f → (U : List TermId) (k : ℕ) (T : List Pair) → IsComplete s terms g f U T k → (b : ℕ) → b ≤ k →
      IsLevel f U T b
  level_of f strat U zero T at b le = level_here f U T b (subst (λ z. IsGreatestAt s terms g f U T z) (let e : 0 ≡ b = omega arith in e) at)
  level_of f strat U (suc k) T at b le = elim (cases_lt b (suc k)) [
    | inl lt ↦ level_above f strat U T b (suc k) lt (level_of f strat U k (below f (suc k) T) at.1 b (omega arith))
    | inr ge ↦ level_here f U T b (subst (λ z. IsGreatestAt s terms g f U T z) (let e : suc k ≡ b = omega arith in e) at.0)
  ]

  -- the answers of a typing T by f over U pass to a typing W by h over V
  module _ (f h : List ℕ) (sf : IsStratified s f) (sh : IsStratified s h) (U V : List TermId) (eu : HoldsEnds U g) (ev : HoldsEnds V g) (T W : List Pair)
      (lt : (b : ℕ) → IsLevel f U T (level f (record { 0 = b }))) (lw : (b : ℕ) → IsLevel h V W (level h (record { 0 = b }))) (k : ℕ)
      (agree : (q : Pair) → Contains U q.node → Contains V q.node → level f q.shape + level h q.shape < k → (Contains T q → Contains W q) × (Contains W q → Contains T q)) where
    over_u : (q : Pair) → Contains T q → Contains U q.node × (q.shape.0 < length s.shapes)
    over_u q c = (lt q.shape.0).over q c refl

    over_v : (q : Pair) → Contains W q → Contains V q.node × (q.shape.0 < length s.shapes)
    over_v q c = (lw q.shape.0).over q c refl

    -- the sum of the two numbers
    abbrev both : Pair → ℕ
    both q = level f q.shape + level h q.shape

    module _ (b : ℕ) where
      abbrev D : List Pair
      D = filter (λ q. nat_eq (both q) k) (filter (λ q. nat_eq (level h q.shape) b) (filter (λ q. list_any (same_id q.node) V) T))

      pub record IsNew (q : Pair) : Type 0 where
        pub held : Contains T q
        pub node : Contains V q.node
        pub at : level h q.shape ≡ b
        pub sum : both q ≡ k

      out_new : (q : Pair) → Contains D q → IsNew q
      out_new q c =
          let first = in_filter (λ q. nat_eq (both q) k) (filter (λ q. nat_eq (level h q.shape) b) (filter (λ q. list_any (same_id q.node) V) T)) q c in
          let second = in_filter (λ q. nat_eq (level h q.shape) b) (filter (λ q. list_any (same_id q.node) V) T) q first.0 in
          let third = in_filter (λ q. list_any (same_id q.node) V) T q second.0 in
          record { held = third.0; node = Contains-from_any {eq = same_id} same_is q.node V third.1; at = eqb-true (level h q.shape) b second.1; sum = eqb-true (both q) k first.1 }

      in_new : (q : Pair) → Contains T q → Contains V q.node → level h q.shape ≡ b → both q ≡ k → Contains D q
      in_new q c node at sum =
          filter_has (λ q. nat_eq (both q) k) _ q
          (filter_has (λ q. nat_eq (level h q.shape) b) _ q
          (filter_has (λ q. list_any (same_id q.node) V) T q c (any_true (same_id q.node) V q.node node (eq-eqb q.node.0 q.node.0 refl)))
          (eq-eqb (level h q.shape) b at)) (eq-eqb (both q) k sum)

      abbrev low : List Pair
      low = below h (suc b) W

      abbrev X : List Pair
      X = low ++ D

      in_low : (q : Pair) → Contains W q → level h q.shape ≤ b → Contains X q
      in_low q c le = Contains-append_left low D q (in_below h (suc b) W q c (omega arith))

      over_x : IsOver s h V b X
      over_x q c = elim (Contains-append_cases low D q c) [
        | inl l ↦ (let t = out_below h (suc b) W q l in let o = over_v q t.0 in let less = t.1 in (o.0, o.1, omega arith))
        | inr d ↦ (let new = out_new q d in let e = new.at in (new.node, (over_u q new.held).1, omega arith))
      ]

      agrees_x : (q : Pair) → level h q.shape < b → (Contains X q → Contains W q) × (Contains W q → Contains X q)
      agrees_x q less = (
        (λ c. elim (Contains-append_cases low D q c) [
          | inl l ↦ (out_below h (suc b) W q l).0
          | inr d ↦ (let e = (out_new q d).at in absurd (omega arith))
        ]),
        (λ c. in_low q c (omega arith)),
      )

      -- an old pair keeps its Shape
      old_ok : (q : Pair) → Contains W q → level h q.shape ≡ b → ShapeOk s terms g X q.node q.shape
      old_ok q c at =
          shape_mono s terms g h sh b W X (λ u le d. in_low u d le) (λ u less d. (agrees_x u less).0 d) q.node q.shape at
          ((lw q.shape.0).ok q c refl)

      -- a new one has it, as what it looks at is the same in both
      new_ok : (q : Pair) → IsNew q → ShapeOk s terms g X q.node q.shape
      new_ok q new =
          shape_moves s terms g (λ m. Contains U m × Contains V m) (λ t c. (((eu t c).0, (ev t c).0), ((eu t c).1, (ev t c).1))) T X q.shape up down q.node
          ((lt q.shape.0).ok q new.held refl)
        where
          up :
              (j : ShapeId) → Edge s q.shape j → (m : TermId) → Contains U m × Contains V m → Contains T (pair_of m j) →
              Contains X (pair_of m j)
          up j e m near c =
              let fall_f : level f j ≤ level f q.shape = sf.never_rises q.shape j e in
              let fall_h : level h j ≤ level h q.shape = sh.never_rises q.shape j e in
              let at = new.at in
              let sum = new.sum in
              elim (cases_lt (both (pair_of m j)) k) [
                | inl less ↦ in_low (pair_of m j) ((agree (pair_of m j) near.0 near.1 less).0 c) (omega arith)
                | inr ge ↦ Contains-append_right low D (pair_of m j) (in_new (pair_of m j) c near.1 (omega arith) (omega arith))
              ]

          down :
              (j : ShapeId) (e : Edge s q.shape j) → IsNegative e → (m : TermId) → Contains U m × Contains V m → Contains X (pair_of m j) →
              Contains T (pair_of m j)
          down j e negative m near c =
              let fall_f : level f j < level f q.shape = sf.falls q.shape j e negative in
              let fall_h : level h j < level h q.shape = sh.falls q.shape j e negative in
              let at = new.at in
              let sum = new.sum in
              elim (Contains-append_cases low D (pair_of m j) c) [
                | inl l ↦ (agree (pair_of m j) near.0 near.1 (omega arith)).1 (out_below h (suc b) W (pair_of m j) l).0
                | inr d ↦ (let e = (out_new (pair_of m j) d).sum in absurd (omega arith))
              ]

      correct_x : IsCorrectAt s terms g h X b
      correct_x q c at = elim (Contains-append_cases low D q c) [
        | inl l ↦ old_ok q (out_below h (suc b) W q l).0 at
        | inr d ↦ new_ok q (out_new q d)
      ]

    passes : (q : Pair) → Contains V q.node → Contains T q → both q ≡ k → Contains W q
    passes q node c sum =
        (lw q.shape.0).greatest (X (level h q.shape)) (over_x (level h q.shape)) (agrees_x (level h q.shape)) (correct_x (level h q.shape)) q
        (Contains-append_right _ _ q (in_new (level h q.shape) q c node refl sum))

  module _ (f h : List ℕ) (sf : IsStratified s f) (sh : IsStratified s h) (U V : List TermId) (eu : HoldsEnds U g) (ev : HoldsEnds V g) (T W : List Pair)
      (tt_ : IsTheTyping s terms g f U T) (tw : IsTheTyping s terms g h V W) where
    lt_ : (b : ℕ) → IsLevel f U T (level f (record { 0 = b }))
    lt_ b = level_of f sf U (top_of f) T tt_ (get_or f b 0) (level_top f b)

    lw_ : (b : ℕ) → IsLevel h V W (level h (record { 0 = b }))
    lw_ b = level_of h sh V (top_of h) W tw (get_or h b 0) (level_top h b)

    same_below :
        (k : ℕ) (q : Pair) → Contains U q.node → Contains V q.node → level f q.shape + level h q.shape < k →
        (Contains T q → Contains W q) × (Contains W q → Contains T q)
    same_below zero q u v less = absurd (omega arith)
    same_below (suc k) q u v less = elim (cases_lt (level f q.shape + level h q.shape) k) [
      | inl lt ↦ same_below k q u v lt
      | inr ge ↦ (
        (λ c. passes f h sf sh U V eu ev T W lt_ lw_ k (λ r ru rv l. same_below k r ru rv l) q v c (omega arith)),
        (λ c. passes h f sh sf V U ev eu W T lw_ lt_ k (λ r rv ru l. (let both = same_below k r ru rv (omega arith) in (both.1, both.0))) q u c (omega arith)),
      )
    ]

    -- two complete typings have the same pairs of each node that both speak of
    pub same_pairs : (q : Pair) → Contains U q.node → Contains V q.node → (Contains T q → Contains W q) × (Contains W q → Contains T q)
    same_pairs q u v = same_below (suc (level f q.shape + level h q.shape)) q u v (omega arith)

    -- and give the same answers for it
    pub same_answers :
        (n : TermId) (e : ExprId) → Contains U n → Contains V n →
        (Sat s terms T n e → Sat s terms W n e) × (Sat s terms W n e → Sat s terms T n e)
    same_answers n e u v = (
      (λ a. sat_mono s terms n (suc e.0) T W e (λ i sign st c. (same_pairs (pair_of n i) u v).0 c) (λ i st c. (same_pairs (pair_of n i) u v).1 c) a),
      (λ a. sat_mono s terms n (suc e.0) W T e (λ i sign st c. (same_pairs (pair_of n i) u v).1 c) (λ i st c. (same_pairs (pair_of n i) u v).0 c) a),
    )

-- by any two stratifications the complete typings over one list of terms have the same pairs
pub strata_alike :
    (s : Schema) (terms : List Term) (g : List Triple) (f h : List ℕ) → IsStratified s f → IsStratified s h → (U : List TermId) →
    HoldsEnds U g → (T W : List Pair) →
    IsTheTyping s terms g f U T → IsTheTyping s terms g h U W → HaveSame T W
strata_alike s terms g f h sf sh U ends T W a b = (
  (λ q c. let u = ((level_of s terms g f sf U (top_of f) T a (level f q.shape) (level_top f q.shape.0)).over q c refl).0 in
      (same_pairs s terms g f h sf sh U U ends ends T W a b q u u).0 c),
  (λ q c. let u = ((level_of s terms g h sh U (top_of h) W b (level h q.shape) (level_top h q.shape.0)).over q c refl).0 in
      (same_pairs s terms g f h sf sh U U ends ends T W a b q u u).1 c),
)
