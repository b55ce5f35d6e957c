-- A complete typing exists over every list of terms.
use Rattle.std.proofs.Common.{◌≡◌, ℕ, zero, suc, ◌<◌, ◌≤◌, ◌⊎◌, inl, inr, List, [], ◌++◌, arith, sym, subst, length, filter, map, append-nil}
use Rattle.std.proofs.lemmas.Bool.{cases_lt, eq-eqb, eqb-true, lt-ltb, le-ltb}
use Rattle.std.proofs.lemmas.List.Elements.{Contains-append_cases, Contains-append_left, Contains-append_right, filter-append}
use Rattle.std.specs.Prelude.{Contains, nat_lt, nat_eq}
use Rattle.std.specs.List.{flat_map}
use Rattle.rdf_terms.specs.declared.terms.TermId.{TermId}
use Rattle.rdf_terms.specs.declared.terms.Term.{Term}
use Rattle.rdf_terms.specs.declared.terms.Triple.{Triple}
use Rattle.schema_tree.specs.declared.schema.Schema.{Schema}
use Rattle.schema_tree.specs.declared.schema.Pair.{Pair}
use Rattle.schema_tree.specs.Shapes.{ShapeOk}
use Rattle.schema_tree.specs.Edges.{level, IsStratified}
use Rattle.schema_tree.specs.Typings.{IsGreatestAt, IsRival, IsComplete, IsTheTyping, below, top_of}
use Rattle.lists.proofs.Members.{not_in_none, from_map, in_map, in_flat_map, from_flat_map}
use Rattle.lists.proofs.Filters.{filter_has, in_filter, filter_all, filter_none}
use Rattle.schema_tree.proofs.Exists.{greatest, HoldsChoices, IsOn, AllOk}
use Rattle.lists.proofs.Numbers.{upto, in_upto, from_upto}
use Rattle.schema_tree.proofs.Below.{in_below, out_below}

module _ (s : Schema) (terms : List Term) (g : List Triple) (f : List ℕ) (strat : IsStratified s f) (U : List TermId)
    (decide : (T : List Pair) (p : Pair) → ShapeOk s terms g T p.node p.shape ⊎ (¬ ShapeOk s terms g T p.node p.shape)) where
  abbrev all_pairs : List Pair
  all_pairs = flat_map (λ n. map (λ i. record { node = n; shape = record { 0 = i } }) (upto (length s.shapes))) U

  -- the pairs that may stand on the stratum k
  abbrev candidates : ℕ → List Pair
  candidates k = filter (λ p. nat_eq (level f p.shape) k) all_pairs

  -- nodes and Shapes are there
  abbrev IsThere : Pair → Type 0
  IsThere p = Contains U p.node × (p.shape.0 < length s.shapes)

  is_candidate : (k : ℕ) (p : Pair) → IsThere p → level f p.shape ≡ k → Contains (candidates k) p
  is_candidate k p (node, shape) at =
      filter_has (λ q. nat_eq (level f q.shape) k) all_pairs p
      (in_flat_map (λ n. map (λ i. let q : Pair = record { node = n; shape = record { 0 = i } } in q) (upto (length s.shapes))) U p.node p node
      (in_map (λ i. let q : Pair = record { node = p.node; shape = record { 0 = i } } in q) (upto (length s.shapes)) p.shape.0 (in_upto (length s.shapes) p.shape.0 shape)))
      (eq-eqb (level f p.shape) k at)

  -- a greatest typing on the stratum k over what stands below
  module _ (k : ℕ) (L : List Pair) (low : (p : Pair) → Contains L p → IsThere p × (level f p.shape < k)) where
    low_only : (p : Pair) → Contains L p → level f p.shape < k
    low_only p h = (low p h).1

    -- the pairs of the stratum
    record Grown : Type 0 where
      pub more : List Pair
      pub at : IsOn s terms g f strat k L IsThere low_only decide more
      pub holds : HoldsChoices s terms g f strat k L IsThere low_only decide more
      pub ok : AllOk s terms g f strat k L IsThere low_only decide (L ++ more) more

    grown : Grown
    grown =
        let (more, at, holds, ok) = greatest s terms g f strat k L IsThere low_only decide (length (candidates k)) (candidates k) (omega arith) on all in
        record { more = more; at = at; holds = holds; ok = ok }
      where
        in_all : (p : Pair) → Contains all_pairs p → IsThere p
        in_all p h =
            let (n, node, made) = from_flat_map _ U p h in
            let (i, shape, is) = from_map _ (upto (length s.shapes)) p made in
            let F : Pair → Type 0 = λ q. Contains U q.node × (q.shape.0 < length s.shapes) in
            subst F is (node, from_upto (length s.shapes) i shape)

        on : IsOn s terms g f strat k L IsThere low_only decide (candidates k)
        on p h = let t = in_filter (λ q. nat_eq (level f q.shape) k) all_pairs p h in (in_all p t.0, eqb-true (level f p.shape) k t.1)

        all : HoldsChoices s terms g f strat k L IsThere low_only decide (candidates k)
        all W choice p h at = is_candidate k p (choice.upto p h).0 at

    -- what is below it is what stood there
    below_grown : (r : Grown) → below f k (L ++ r.more) ≡ L
    below_grown r =
        rw (
          filter-append (λ p. nat_lt (level f p.shape) k) L r.more,
          filter_all (λ p. nat_lt (level f p.shape) k) L (λ p h. lt-ltb (level f p.shape) k (low p h).1),
          filter_none (λ p. nat_lt (level f p.shape) k) r.more (λ p h. le-ltb (level f p.shape) k (let e = (r.at p h).1 in omega arith)),
        )
        (append-nil L)

    is_greatest : (r : Grown) → IsGreatestAt s terms g f U (L ++ r.more) k
    is_greatest r = record {
      over = λ p h. elim (Contains-append_cases L r.more p h) [
        | inl l ↦ (let t = low p l in (t.0.0, t.0.1, omega arith))
        | inr m ↦ (let t = r.at p m in (t.0.0, t.0.1, omega arith))
      ];
      correct = λ p h at. elim (Contains-append_cases L r.more p h) [
        | inl l ↦ (let lt : level f p.shape < k = (low p l).1 in absurd (omega arith))
        | inr m ↦ r.ok p m
      ];
      greatest = λ W rival p h. elim (cases_lt (level f p.shape) k) [
        | inl lt ↦ Contains-append_left L r.more p ((agree W rival p lt).0 h)
        | inr ge ↦ (let up : level f p.shape ≤ k = (rival.over p h).2 in
            Contains-append_right L r.more p (r.holds W (record {
              upto = λ q c. (let o = rival.over q c in ((o.0, o.1), o.2));
              agrees = λ q lt. agree W rival q lt;
              correct = rival.correct;
            }) p h (omega arith)))
      ];
    }
      where
        agree :
            (W : List Pair) → IsRival s terms g f U (L ++ r.more) k W → (q : Pair) → level f q.shape < k →
            (Contains W q → Contains L q) × (Contains L q → Contains W q)
        agree W rival q lt = (
          (λ c. subst (λ T. Contains T q) (below_grown r) (rival.agrees.0 q (in_below f k W q c lt))),
          (λ c. (out_below f k W q (rival.agrees.1 q (subst (λ T. Contains T q) (sym (below_grown r)) c))).0),
        )

  -- the complete typing of the strata up to k
  pub complete_upto :
      (k : ℕ) → (T : List Pair) × ((p : Pair) → Contains T p → IsThere p × (level f p.shape ≤ k)) × IsComplete s terms g f U T k
  complete_upto zero =
      let low : (p : Pair) → Contains [] p → IsThere p × (level f p.shape < 0) = λ p h. absurd (not_in_none p h) in
      let r = grown zero [] low in
      (r.more, (λ p h. ((r.at p h).0, (let e = (r.at p h).1 in omega arith))), is_greatest zero [] low r)
  complete_upto (suc k) =
      let (L, upto_k, complete) = complete_upto k in
      let low : (p : Pair) → Contains L p → IsThere p × (level f p.shape < suc k) = λ p h. ((upto_k p h).0, (let le = (upto_k p h).1 in omega arith)) in
      let r = grown (suc k) L low in (
        L ++ r.more,
        (λ p h. elim (Contains-append_cases L r.more p h) [
          | inl l ↦ ((low p l).0, (let lt = (low p l).1 in omega arith))
          | inr m ↦ ((r.at p m).0, (let e = (r.at p m).1 in omega arith))
        ]),
        (is_greatest (suc k) L low r, subst (λ T. IsComplete s terms g f U T k) (sym (below_grown (suc k) L low r)) complete),
      )

  pub complete_exists : (T : List Pair) × IsTheTyping s terms g f U T
  complete_exists = let (T, upto_top, complete) = complete_upto (top_of f) in (T, complete)
