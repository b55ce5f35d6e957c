-- What is sure, and what can match, depends on the answers for the pairs that are needed, and on no others.
use Rattle.std.proofs.Common.{◌≡◌, ℕ, zero, suc, List, [], refl, subst, Bool, true, false}
use Rattle.std.specs.Prelude.{◌↔◌, Contains, Option, Some, None}
use Rattle.rdf_terms.specs.declared.terms.Term.{Term}
use Rattle.rdf_terms.specs.declared.terms.TermId.{TermId}
use Rattle.rdf_terms.specs.declared.terms.Triple.{Triple}
use Rattle.schema_tree.specs.declared.schema.Expr.{Expr}
use Rattle.schema_tree.specs.declared.schema.Expr.TheVariants as Exprs
use Rattle.schema_tree.specs.declared.schema.ExprId.{ExprId}
use Rattle.schema_tree.specs.declared.schema.Occurrence.{Occurrence}
use Rattle.schema_tree.specs.declared.schema.Pair.{Pair}
use Rattle.schema_tree.specs.declared.schema.Schema.{Schema}
use Rattle.schema_tree.specs.declared.schema.Shape.{Shape}
use Rattle.schema_tree.specs.declared.schema.ShapeId.{ShapeId}
use Rattle.schema_tree.specs.declared.verdicts.Lean.{Lean}
use Rattle.schema_tree.specs.declared.verdicts.Lean.TheVariants.{Possible, Impossible}
use Rattle.schema_tree.specs.declared.verdicts.Verdict.{Verdict}
use Rattle.schema_tree.specs.declared.verdicts.Verdict.TheVariants.{Yes, No}
use Rattle.schema_tree.specs.Edges.{StandsIn, in_and, in_not, in_or, itself}
use Rattle.schema_tree.specs.Entries.{entry, pair_of, shape_at}
use Rattle.schema_tree.specs.Matches.{fits, other_end}
use Rattle.schema_tree.specs.Needs.{Needs}
use Rattle.schema_tree.specs.Places.{CanMatch, MayFail, MayHold, PairCanMatch}
use Rattle.schema_tree.specs.Relevant.{is_forward}
use Rattle.schema_tree.specs.Satisfies.{Sat}
use Rattle.schema_tree.specs.Sure.{Known, PairIs, SureEntry, SureWithin}
use Rattle.schema_tree.proofs.Leans.{places_weaker}
use Rattle.schema_tree.proofs.Needed.{in_graph, need_of, need_out}
use Rattle.lists.proofs.Quantifiers.{all_weaker, some_weaker}
use Rattle.schema_tree.proofs.ToPlaces.{forward_parts}

module _ (s : Schema) (terms : List Term) (a b : Known) (n : TermId) where
  -- what a answers for n with the Shape, b answers too
  abbrev pub Carries : Verdict → ShapeId → Type 0
  Carries v i = PairIs a (pair_of n i) v → PairIs b (pair_of n i) v

  -- it answers so much that a sure Yes stays: Yes for each Shape in e, and No for those behind a ShapeNot
  abbrev pub CarriesYes : ExprId → Type 0
  CarriesYes e =
      ((i : ShapeId) (sign : Bool) → StandsIn s i e sign → Carries Yes i) × ((i : ShapeId) → StandsIn s i e true → Carries No i)

  -- it answers so much that a sure No stays: No for each Shape in e, and Yes for those behind a ShapeNot
  abbrev pub CarriesNo : ExprId → Type 0
  CarriesNo e =
      ((i : ShapeId) (sign : Bool) → StandsIn s i e sign → Carries No i) × ((i : ShapeId) → StandsIn s i e true → Carries Yes i)

  entry_carries :
      (sure sure' : ExprId → Verdict → Type 0) →
      ((d : ExprId) → (CarriesYes d → sure d Yes → sure' d Yes) × (CarriesNo d → sure d No → sure' d No)) →
      (e : ExprId) (x : Option Expr) → entry s e ≡ x →
      (CarriesYes e → SureEntry a terms n sure x Yes → SureEntry b terms n sure' x Yes) × (CarriesNo e → SureEntry a terms n sure x No → SureEntry b terms n sure' x No)
  entry_carries sure sure' m e None is = ((λ h v. v), λ h v. v)
  entry_carries sure sure' m e (Some (Exprs.And es)) is = (
    (λ h. all_weaker (λ d. sure d Yes) (λ d. sure' d Yes) es (λ d c. (m d).0 ((λ i sign st. h.0 i sign (in_and es d is c st)), (λ i st. h.1 i (in_and es d is c st))))),
    (λ h. some_weaker (λ d. sure d No) (λ d. sure' d No) es (λ d c. (m d).1 ((λ i sign st. h.0 i sign (in_and es d is c st)), (λ i st. h.1 i (in_and es d is c st))))),
  )
  entry_carries sure sure' m e (Some (Exprs.Or es)) is = (
    (λ h. some_weaker (λ d. sure d Yes) (λ d. sure' d Yes) es (λ d c. (m d).0 ((λ i sign st. h.0 i sign (in_or es d is c st)), (λ i st. h.1 i (in_or es d is c st))))),
    (λ h. all_weaker (λ d. sure d No) (λ d. sure' d No) es (λ d c. (m d).1 ((λ i sign st. h.0 i sign (in_or es d is c st)), (λ i st. h.1 i (in_or es d is c st))))),
  )
  entry_carries sure sure' m e (Some (Exprs.Not d)) is = (
    (λ h. (m d).1 ((λ i sign st. h.1 i (in_not d is st)), (λ i st. h.0 i true (in_not d is st)))),
    (λ h. (m d).0 ((λ i sign st. h.1 i (in_not d is st)), (λ i st. h.0 i true (in_not d is st)))),
  )
  entry_carries sure sure' m e (Some (Exprs.Node c)) is = ((λ h v. v), λ h v. v)
  entry_carries sure sure' m e (Some (Exprs.Shape i)) is = ((λ h. h.0 i false (itself is)), λ h. h.0 i false (itself is))

  pub sure_carries :
      (k : ℕ) (e : ExprId) →
      (CarriesYes e → SureWithin k s terms a n e Yes → SureWithin k s terms b n e Yes) × (CarriesNo e → SureWithin k s terms a n e No → SureWithin k s terms b n e No)
  unfolding SureWithin
  sure_carries zero e = ((λ h v. v), λ h v. v)
  sure_carries (suc k) e = entry_carries (SureWithin k s terms a n) (SureWithin k s terms b n) (sure_carries k) e (entry s e) refl

module _ (s : Schema) (terms : List Term) (a b : Known) (n : TermId) where
  -- the two answer alike for n with the Shape
  abbrev pub Alike : ShapeId → Type 0
  Alike i = (v : Verdict) → PairIs a (pair_of n i) v ↔ PairIs b (pair_of n i) v

  -- and with each Shape that stands in e
  abbrev pub AreAlike : ExprId → Type 0
  AreAlike e = (i : ShapeId) (sign : Bool) → StandsIn s i e sign → Alike i

  pub hold_alike :
      (lean : Lean) (x : Option ExprId) → ((e : ExprId) → x ≡ Some e → AreAlike e) → MayHold s terms a lean n x →
      MayHold s terms b lean n x
  hold_alike Possible None h m = m
  hold_alike Impossible None h m = m
  hold_alike Possible (Some e) h m =
      λ v. m ((sure_carries s terms b a n (suc e.0) e).1 ((λ i sign st. (h e refl i sign st No).1), (λ i st. (h e refl i true st Yes).1)) v)
  hold_alike Impossible (Some e) h m =
      (sure_carries s terms a b n (suc e.0) e).0 ((λ i sign st. (h e refl i sign st Yes).0), (λ i st. (h e refl i true st No).0)) m

  pub fail_alike :
      (lean : Lean) (x : Option ExprId) → ((e : ExprId) → x ≡ Some e → AreAlike e) → MayFail s terms a lean n x →
      MayFail s terms b lean n x
  fail_alike Possible None h m = m
  fail_alike Impossible None h m = m
  fail_alike Possible (Some e) h m =
      λ v. m ((sure_carries s terms b a n (suc e.0) e).0 ((λ i sign st. (h e refl i sign st Yes).1), (λ i st. (h e refl i true st No).1)) v)
  fail_alike Impossible (Some e) h m =
      (sure_carries s terms a b n (suc e.0) e).1 ((λ i sign st. (h e refl i sign st No).0), (λ i st. (h e refl i true st Yes).0)) m

-- views that answer alike for each pair that p needs let it match alike
module _ (s : Schema) (terms : List Term) (g : List Triple) (a b : Known) (lean : Lean) (p : Pair)
    (same : (q : Pair) → Needs s g p q → (v : Verdict) → PairIs a q v ↔ PairIs b q v) where
  module _ (sh : Shape) (is : shape_at s p.shape ≡ Some sh) where
    alike_at :
        (t : Triple) → Contains g t → (o : Occurrence) → Contains sh.occs o → fits o p.node t ≡ true →
        (e : ExprId) → o.value ≡ Some e → AreAlike s terms a b (other_end o.inverse t) e
    alike_at t held o of fit e value i sign st = same (pair_of (other_end o.inverse t) i) (need_of s g p sh is t held o of fit e value i sign st)

    pub hold_at :
        (t : Triple) (o : Occurrence) → Contains g t → Contains sh.occs o → fits o p.node t ≡ true →
        MayHold s terms a lean (other_end o.inverse t) o.value → MayHold s terms b lean (other_end o.inverse t) o.value
    hold_at t o held of fit = hold_alike s terms a b (other_end o.inverse t) lean o.value (alike_at t held o of fit)

    pub fail_at :
        (t : Triple) (o : Occurrence) → Contains g t → Contains sh.extra t.p → Contains sh.occs o → is_forward p.node t o ≡ true →
        MayFail s terms a lean t.o o.value → MayFail s terms b lean t.o o.value
    fail_at t o held extra of forward =
        let parts = forward_parts (Sat s terms []) g sh p.node t o forward in
        fail_alike s terms a b t.o lean o.value
        (subst (λ d. (e : ExprId) → o.value ≡ Some e → AreAlike s terms a b (other_end d t) e) parts.0 (alike_at t held o of parts.1))

  pub match_alike : PairCanMatch s terms g a lean p → PairCanMatch s terms g b lean p
  match_alike = go (shape_at s p.shape) refl
    where
      go : (x : Option Shape) → shape_at s p.shape ≡ x → CanMatch s terms g a lean p.node x → CanMatch s terms g b lean p.node x
      go None is h = h
      go (Some sh) is h =
          places_weaker _ _ _ _ sh p.node (λ t. Contains g t) (hold_at sh is) (fail_at sh is) g _ (in_graph terms g sh p.node) h

-- where a view knows more than another of the pairs that p needs, and Unknown is impossible, p still matches
module _ (s : Schema) (terms : List Term) (g : List Triple) (a b : Known) (p : Pair)
    (up : (q : Pair) → Needs s g p q → PairIs a q Yes → PairIs b q Yes) (down : (q : Pair) → Needs s g p q → PairIs a q No → PairIs b q No) where
  module _ (sh : Shape) (is : shape_at s p.shape ≡ Some sh) where
    hold_up :
        (t : Triple) (o : Occurrence) → Contains g t → Contains sh.occs o → fits o p.node t ≡ true →
        MayHold s terms a Impossible (other_end o.inverse t) o.value → MayHold s terms b Impossible (other_end o.inverse t) o.value
    hold_up t o held of fit = go o.value refl
      where
        go : (x : Option ExprId) → o.value ≡ x → MayHold s terms a Impossible (other_end o.inverse t) x → MayHold s terms b Impossible (other_end o.inverse t) x
        go None e h = h
        go (Some d) e h =
            (sure_carries s terms a b (other_end o.inverse t) (suc d.0) d).0
            ((λ i sign st. up _ (need_of s g p sh is t held o of fit d e i sign st)), (λ i st. down _ (need_of s g p sh is t held o of fit d e i true st))) h

    fail_up :
        (t : Triple) (o : Occurrence) → Contains g t → Contains sh.extra t.p → Contains sh.occs o → is_forward p.node t o ≡ true →
        MayFail s terms a Impossible t.o o.value → MayFail s terms b Impossible t.o o.value
    fail_up t o held extra of forward = go o.value refl
      where
        parts : (o.inverse ≡ false) × (fits o p.node t ≡ true)
        parts = forward_parts (Sat s terms []) g sh p.node t o forward

        need : (d : ExprId) → o.value ≡ Some d → (i : ShapeId) (sign : Bool) → StandsIn s i d sign → Needs s g p (pair_of t.o i)
        need = need_out s g p sh is t held o of parts.0 parts.1

        go : (x : Option ExprId) → o.value ≡ x → MayFail s terms a Impossible t.o x → MayFail s terms b Impossible t.o x
        go None e h = h
        go (Some d) e h =
            (sure_carries s terms a b t.o (suc d.0) d).1
            ((λ i sign st. down _ (need d e i sign st)), (λ i st. up _ (need d e i true st))) h

  pub match_up : PairCanMatch s terms g a Impossible p → PairCanMatch s terms g b Impossible p
  match_up = go (shape_at s p.shape) refl
    where
      go : (x : Option Shape) → shape_at s p.shape ≡ x → CanMatch s terms g a Impossible p.node x → CanMatch s terms g b Impossible p.node x
      go None is h = h
      go (Some sh) is h =
          places_weaker _ _ _ _ sh p.node (λ t. Contains g t) (hold_up sh is) (fail_up sh is) g _ (in_graph terms g sh p.node) h
