-- A pair that cannot match still cannot once more is known: more No of what it needs, and more Yes of what it needs by a
-- negative edge.
use Rattle.std.proofs.Common.{◌≡◌, inl, inr, List, true, suc, refl}
use Rattle.std.specs.Prelude.{Contains, Option, Some, None}
use Rattle.rdf_terms.specs.declared.terms.Term.{Term}
use Rattle.rdf_terms.specs.declared.terms.Triple.{Triple}
use Rattle.schema_tree.specs.declared.schema.ExprId.{ExprId}
use Rattle.schema_tree.specs.declared.schema.Occurrence.{Occurrence}
use Rattle.schema_tree.specs.declared.schema.Pair.{Pair}
use Rattle.schema_tree.specs.declared.schema.Schema.{Schema}
use Rattle.schema_tree.specs.declared.schema.Shape.{Shape}
use Rattle.schema_tree.specs.declared.verdicts.Lean.TheVariants.{Possible}
use Rattle.schema_tree.specs.declared.verdicts.Verdict.TheVariants.{Yes, No}
use Rattle.schema_tree.specs.Edges.{IsExtra}
use Rattle.schema_tree.specs.Entries.{shape_at}
use Rattle.schema_tree.specs.Matches.{fits, other_end}
use Rattle.schema_tree.specs.Needs.{Needs}
use Rattle.schema_tree.specs.Places.{CanMatch, MayFail, MayHold, PairCanMatch}
use Rattle.schema_tree.specs.Relevant.{is_forward}
use Rattle.schema_tree.specs.Sure.{Known, PairIs}
use Rattle.schema_tree.proofs.Leans.{places_weaker}
use Rattle.removal_laws.proofs.Carried.{sure_carries}
use Rattle.schema_tree.proofs.Needed.{in_graph, need_of, need_out, under_extra}
use Rattle.locality_laws.specs.Local.{IsNegativeNeed}

module _ (s : Schema) (terms : List Term) (g : List Triple) (a b : Known) (p : Pair)
    (up : (q : Pair) (n : Needs s g p q) → IsNegativeNeed n → PairIs a q Yes → PairIs b q Yes) (down : (q : Pair) → Needs s g p q → PairIs a q No → PairIs b q No) where
  module _ (sh : Shape) (is : shape_at s p.shape ≡ Some sh) where
    hold_less :
        (t : Triple) (o : Occurrence) → Contains g t → Contains sh.occs o → fits o p.node t ≡ true →
        MayHold s terms b Possible (other_end o.inverse t) o.value → MayHold s terms a Possible (other_end o.inverse t) o.value
    hold_less t o held of fit = go o.value refl
      where
        go : (x : Option ExprId) → o.value ≡ x → MayHold s terms b Possible (other_end o.inverse t) x → MayHold s terms a Possible (other_end o.inverse t) x
        go None e h = h
        go (Some d) e h = λ v. h
            ((sure_carries s terms a b (other_end o.inverse t) (suc d.0) d).1
            ((λ i sign st. down _ (need_of s g p sh is t held o of fit d e i sign st)), (λ i st. up _ (need_of s g p sh is t held o of fit d e i true st) (inl refl))) v)

    fail_less :
        (t : Triple) (o : Occurrence) → Contains g t → Contains sh.extra t.p → Contains sh.occs o → is_forward p.node t o ≡ true →
        MayFail s terms b Possible t.o o.value → MayFail s terms a Possible t.o o.value
    fail_less t o held extra of forward = go o.value refl
      where
        here : IsExtra sh.extra o × (fits o p.node t ≡ true)
        here = under_extra sh p.node t o forward extra

        go : (x : Option ExprId) → o.value ≡ x → MayFail s terms b Possible t.o x → MayFail s terms a Possible t.o x
        go None e h = h
        go (Some d) e h = λ v. h
            ((sure_carries s terms a b t.o (suc d.0) d).0
            ((λ i sign st. up _ (need_out s g p sh is t held o of here.0.0 here.1 d e i sign st) (inr here.0)), (λ i st. down _ (need_out s g p sh is t held o of here.0.0 here.1 d e i true st))) v)

  pub match_falls : PairCanMatch s terms g b Possible p → PairCanMatch s terms g a Possible p
  match_falls = go (shape_at s p.shape) refl
    where
      go : (x : Option Shape) → shape_at s p.shape ≡ x → CanMatch s terms g b Possible p.node x → CanMatch s terms g a Possible p.node x
      go None is h = h
      go (Some sh) is h =
          places_weaker _ _ _ _ sh p.node (λ t. Contains g t) (hold_less sh is) (fail_less sh is) g _ (in_graph terms g sh p.node) h
