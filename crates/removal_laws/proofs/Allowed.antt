-- Allowed places stay allowed where the values that they rest on stay.
use Rattle.std.proofs.Common.{◌≡◌, ◌<◌, ◌≤◌, inl, inr, refl, arith, ℕ, suc, List, [], ◌∷◌, Bool, true, sym, subst}
use Rattle.std.specs.Prelude.{◌↔◌, Contains, Option, Some, None}
use Rattle.rdf_terms.specs.declared.terms.TermId.{TermId}
use Rattle.rdf_terms.specs.declared.terms.Term.{Term}
use Rattle.rdf_terms.specs.declared.terms.Triple.{Triple}
use Rattle.schema_tree.specs.declared.schema.Schema.{Schema}
use Rattle.schema_tree.specs.declared.schema.Shape.{Shape}
use Rattle.schema_tree.specs.declared.schema.ShapeId.{ShapeId}
use Rattle.schema_tree.specs.declared.schema.Occurrence.{Occurrence}
use Rattle.schema_tree.specs.declared.schema.ExprId.{ExprId}
use Rattle.schema_tree.specs.declared.schema.Pair.{Pair}
use Rattle.schema_tree.specs.declared.verdicts.Lean.TheVariants.{Possible, Impossible}
use Rattle.schema_tree.specs.declared.verdicts.Place.{Place}
use Rattle.schema_tree.specs.declared.verdicts.State.{State}
use Rattle.schema_tree.specs.declared.verdicts.Verdict.{Verdict}
use Rattle.schema_tree.specs.declared.verdicts.Verdict.TheVariants.{Yes, No}
use Rattle.schema_tree.specs.Edges.{Edge, IsStratified, StandsIn, StandsInValue, level}
use Rattle.schema_tree.specs.Entries.{pair_of, shape_at}
use Rattle.schema_tree.specs.Matches.{fits, other_end}
use Rattle.schema_tree.specs.Places.{AreAllowed, IsAllowed, MayFail, MayHold}
use Rattle.schema_tree.specs.Relevant.{is_forward}
use Rattle.schema_tree.specs.States.{AreClosed}
use Rattle.schema_tree.specs.Sure.{Known, PairIs}
use Rattle.schema_tree.proofs.Leans.{all_weaker_allowed}
use Rattle.removal_laws.proofs.Carried.{AreAlike, fail_alike, hold_alike, sure_carries}
use Rattle.schema_tree.proofs.Needed.{under_extra}

-- what stands in a value is of no higher stratum, and of a lower one behind a ShapeNot or under EXTRA
module _ (s : Schema) (terms : List Term) (g : List Triple) (f : List ℕ) (strat : IsStratified s f) (p : Pair) (sh : Shape) (is : shape_at s p.shape ≡ Some sh) where
  abbrev edge : (o : Occurrence) → Contains sh.occs o → (e : ExprId) → o.value ≡ Some e → (i : ShapeId) (sign : Bool) → StandsIn s i e sign → Edge s p.shape i
  edge o of e value i sign st =
      record { shape = sh; is = is; occ = o; of = of; sign = sign; stands = subst (λ v. StandsInValue s i v sign) (sym value) st }

  no_higher : (o : Occurrence) → Contains sh.occs o → (e : ExprId) → o.value ≡ Some e → (i : ShapeId) (sign : Bool) → StandsIn s i e sign → level f i ≤ level f p.shape
  no_higher o of e value i sign st = strat.never_rises p.shape i (edge o of e value i sign st)

  lower_not : (o : Occurrence) → Contains sh.occs o → (e : ExprId) → o.value ≡ Some e → (i : ShapeId) → StandsIn s i e true → level f i < level f p.shape
  lower_not o of e value i st = strat.falls p.shape i (edge o of e value i true st) (inl refl)

  lower_extra : (t : Triple) (o : Occurrence) → Contains sh.extra t.p → Contains sh.occs o → is_forward p.node t o ≡ true →
      (e : ExprId) → o.value ≡ Some e → (i : ShapeId) (sign : Bool) → StandsIn s i e sign → level f i < level f p.shape
  lower_extra t o extra of forward e value i sign st = strat.falls p.shape i (edge o of e value i sign st) (inr (under_extra sh p.node t o forward extra).0)

  -- places that are sure under a view are so under another that has its Yes up to the stratum and its No below it
  module _ (a b : Known) (up : (q : Pair) → level f q.shape ≤ level f p.shape → PairIs a q Yes → PairIs b q Yes)
      (down : (q : Pair) → level f q.shape < level f p.shape → PairIs a q No → PairIs b q No) where
    less_le : (x y : ℕ) → x < y → x ≤ y
    less_le x y lt = omega arith

    hold_up : (t : Triple) (o : Occurrence) → Unit {0} → Contains sh.occs o → fits o p.node t ≡ true →
        MayHold s terms a Impossible (other_end o.inverse t) o.value → MayHold s terms b Impossible (other_end o.inverse t) o.value
    hold_up t o elsewhere of fit = go o.value refl
      where
        go : (x : Option ExprId) → o.value ≡ x → MayHold s terms a Impossible (other_end o.inverse t) x → MayHold s terms b Impossible (other_end o.inverse t) x
        go None e h = h
        go (Some d) e h =
            (sure_carries s terms a b (other_end o.inverse t) (suc d.0) d).0
            ((λ i sign st. up (pair_of (other_end o.inverse t) i) (no_higher o of d e i sign st)), (λ i st. down (pair_of (other_end o.inverse t) i) (lower_not o of d e i st))) h

    fail_up : (t : Triple) (o : Occurrence) → Unit {0} → Contains sh.extra t.p → Contains sh.occs o → is_forward p.node t o ≡ true →
        MayFail s terms a Impossible t.o o.value → MayFail s terms b Impossible t.o o.value
    fail_up t o elsewhere extra of forward = go o.value refl
      where
        go : (x : Option ExprId) → o.value ≡ x → MayFail s terms a Impossible t.o x → MayFail s terms b Impossible t.o x
        go None e h = h
        go (Some d) e h =
            (sure_carries s terms a b t.o (suc d.0) d).1 (
              (λ i sign st. down (pair_of t.o i) (lower_extra t o extra of forward d e i sign st)),
              (λ i st. up (pair_of t.o i) (less_le _ _ (lower_extra t o extra of forward d e i true st))),
            ) h

    pub places_hold : (ts : List Triple) (places : List Place) → AreAllowed (MayHold s terms a Impossible) (MayFail s terms a Impossible) sh p.node ts places →
        AreAllowed (MayHold s terms b Impossible) (MayFail s terms b Impossible) sh p.node ts places
    places_hold ts places h = all_weaker_allowed (MayHold s terms a Impossible) (MayFail s terms a Impossible) (MayHold s terms b Impossible)
        (MayFail s terms b Impossible) sh p.node (λ t. Unit {0}) hold_up fail_up ts places (λ t c. tt) h

  -- states that are closed under a view are so under another that answers alike up to the stratum
  module _ (a b : Known) (same : (q : Pair) → level f q.shape ≤ level f p.shape → (v : Verdict) → PairIs a q v ↔ PairIs b q v) where
    alike_at : (t : Triple) (o : Occurrence) → Contains sh.occs o → (e : ExprId) → o.value ≡ Some e → (m : TermId) → AreAlike s terms b a m e
    alike_at t o of e value m i sign st v = let w = same (pair_of m i) (no_higher o of e value i sign st) v in (w.1, w.0)

    place_back : (t : Triple) (place : Place) → IsAllowed (MayHold s terms b Possible) (MayFail s terms b Possible) sh p.node t place →
        IsAllowed (MayHold s terms a Possible) (MayFail s terms a Possible) sh p.node t place
    place_back t place h =
        (all_weaker_allowed (MayHold s terms b Possible) (MayFail s terms b Possible) (MayHold s terms a Possible) (MayFail s terms a Possible) sh p.node (λ u. Unit {0})
        (λ u o elsewhere of fit. hold_alike s terms b a (other_end o.inverse u) Possible o.value (λ e value. alike_at u o of e value (other_end o.inverse u)))
        (λ u o elsewhere extra of forward. fail_alike s terms b a u.o Possible o.value (λ e value. alike_at u o of e value u.o)) (t ∷ []) (place ∷ []) (λ u c. tt) (h, tt)).0

    pub states_hold : (ts : List Triple) (states : List State) → AreClosed (MayHold s terms a Possible) (MayFail s terms a Possible) sh p.node ts states →
        AreClosed (MayHold s terms b Possible) (MayFail s terms b Possible) sh p.node ts states
    states_hold ts states h = record {
      shaped = h.shaped;
      unfinished = h.unfinished;
      steps = λ x c alive t at place allowed. h.steps x c alive t at place (place_back t place allowed);
    }
