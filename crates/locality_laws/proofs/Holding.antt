-- Each pair is one of distinct pairs that have all that they need, so that what refinement says of these holds of its verdict.
use Rattle.std.proofs.Common.{◌≡◌, ◌<◌, ◌⊎◌, inl, inr, List, [], ◌∷◌, sym, subst, length, map, Bool, true, false}
use Rattle.std.specs.List.{flat_map}
use Rattle.std.specs.Prelude.{Contains, Option, Some, None}
use Rattle.lists.specs.Distinct.{AreDistinct}
use Rattle.lists.proofs.Decided.{Decided, decide_member}
use Rattle.lists.proofs.Members.{from_flat_map, from_map, in_flat_map, in_map, in_rest, is_first, is_later, not_in_none}
use Rattle.lists.proofs.Numbers.{in_upto, upto}
use Rattle.rdf_terms.specs.declared.terms.TermId.{TermId}
use Rattle.rdf_terms.specs.declared.terms.Triple.{Triple}
use Rattle.schema_tree.specs.declared.schema.ExprId.{ExprId}
use Rattle.schema_tree.specs.declared.schema.Pair.{Pair}
use Rattle.schema_tree.specs.declared.schema.Schema.{Schema}
use Rattle.schema_tree.specs.declared.schema.ShapeId.{ShapeId}
use Rattle.schema_tree.specs.Edges.{StandsInValue}
use Rattle.schema_tree.specs.Entries.{pair_of}
use Rattle.schema_tree.specs.Laws.{NarrowIsKnown, RefinementExists, RefinementIsTrue, WidthIsOne}
use Rattle.schema_tree.specs.Loaded.{IsLoaded}
use Rattle.schema_tree.specs.Matches.{other_end}
use Rattle.schema_tree.specs.Needs.{HoldNeeds}
use Rattle.schema_tree.specs.Typings.{HaveSame}
use Rattle.schema_tree.proofs.Decide.{same_pairs}
use Rattle.schema_tree.proofs.Strata.{stands_there}
use Rattle.demand.proofs.Led.{leads_wide, led_there}
use Rattle.locality_laws.specs.Laws.{UnknownIsWide, VerdictIsOne, VerdictIsTrue}
use Rattle.locality_laws.proofs.Alike.{one_verdict, some_verdict}
use Rattle.locality_laws.proofs.Counting.{with_first}
use Rattle.locality_laws.proofs.Whole.{closed_local}

-- distinct pairs that are the same ones
record Sifted (xs : List Pair) : Type 0 where
  items : List Pair
  distinct : AreDistinct items
  same : HaveSame xs items

sifted : (xs : List Pair) → Sifted xs
sifted [] = record { items = []; distinct = λ i j x a b. (let f : None ≡ Some x = a in absurd cc); same = ((λ p c. c), (λ p c. c)) }
sifted (x ∷ xs) = go (sifted xs)
  where
    go : Sifted xs → Sifted (x ∷ xs)
    go s = by (decide_member same_pairs s.items x)
      where
        by : Decided (Contains s.items x) → Sifted (x ∷ xs)
        by (inl held) = record {
          items = s.items;
          distinct = s.distinct;
          same = (
            (λ p c. elim (in_rest x xs p c) [ inl e ↦ subst (λ z. Contains s.items z) e held | inr l ↦ s.same.0 p l ]),
            (λ p c. is_later x xs p (s.same.1 p c)),
          );
        }
        by (inr none) = record {
          items = x ∷ s.items;
          distinct = with_first x s.items none s.distinct;
          same = (
            (λ p c. elim (in_rest x xs p c) [ inl e ↦ subst (λ z. Contains (x ∷ s.items) z) e (is_first x s.items) | inr l ↦ is_later x s.items p (s.same.0 p l) ]),
            (λ p c. elim (in_rest x s.items p c) [ inl e ↦ subst (λ z. Contains (x ∷ xs) z) e (is_first x xs) | inr l ↦ is_later x xs p (s.same.1 p l) ]),
          );
        }

-- the subjects and objects of the triples
abbrev ends_of : Triple → List TermId
ends_of t = t.s ∷ t.o ∷ []

abbrev ends : List Triple → List TermId
ends g = flat_map ends_of g

end_there : (g : List Triple) (t : Triple) (inverse : Bool) → Contains g t → Contains (ends g) (other_end inverse t)
end_there g t true held = in_flat_map ends_of g t t.s held (is_first t.s (t.o ∷ []))
end_there g t false held = in_flat_map ends_of g t t.o held (is_later t.s (t.o ∷ []) t.o (is_first t.o []))

abbrev shapes_with : Schema → TermId → List Pair
shapes_with s n = map (λ i. pair_of n (record { 0 = i })) (upto (length s.shapes))

-- the pair, and each end of a triple with each Shape
abbrev reach : Schema → List Triple → Pair → List Pair
reach s g p = p ∷ flat_map (shapes_with s) (ends g)

reached : (s : Schema) (g : List Triple) (p q : Pair) → Contains (ends g) q.node → q.shape.0 < length s.shapes → Contains (reach s g p) q
reached s g p q node shape =
    is_later p (flat_map (shapes_with s) (ends g)) q
    (in_flat_map (shapes_with s) (ends g) q.node q node (in_map (λ i. pair_of q.node (record { 0 = i })) (upto (length s.shapes)) q.shape.0 (in_upto (length s.shapes) q.shape.0 shape)))

in_reach : (s : Schema) (g : List Triple) (p q : Pair) → Contains (reach s g p) q → (p ≡ q) ⊎ Contains (ends g) q.node
in_reach s g p q c = elim (in_rest p (flat_map (shapes_with s) (ends g)) q c) [
  | inl e ↦ inl e
  | inr l ↦ (let (n, held, made) = from_flat_map (shapes_with s) (ends g) q l in
      let (i, below, is) = from_map (λ j. pair_of n (record { 0 = j })) (upto (length s.shapes)) q made in
      inr (subst (λ z. Contains (ends g) z.node) is held))
]

value_there : (s : Schema) → IsLoaded s → (i : ShapeId) (value : Option ExprId) (sign : Bool) → StandsInValue s i value sign → i.0 < length s.shapes
value_there s loaded i None sign h = absurd h
value_there s loaded i (Some e) sign h = stands_there s loaded i e sign h

-- distinct pairs that have the pair and all that they need
record Closed (s : Schema) (g : List Triple) (p : Pair) : Type 0 where
  all : List Pair
  distinct : AreDistinct all
  held : HoldNeeds s g all
  there : Contains all p
  nodes : (q : Pair) → Contains all q → (p ≡ q) ⊎ Contains (ends g) q.node

closed : (s : Schema) (g : List Triple) → IsLoaded s → (p : Pair) → Closed s g p
closed s g loaded p = go (sifted (reach s g p))
  where
    go : Sifted (reach s g p) → Closed s g p
    go r = record {
      all = r.items;
      distinct = r.distinct;
      held = λ u q c n. r.same.0 q (reached s g p q (subst (λ z. Contains (ends g) z) (sym n.end) (end_there g n.triple n.occ.inverse n.held)) (value_there s loaded q.shape n.occ.value n.sign n.stands));
      there = r.same.0 p (is_first p (flat_map (shapes_with s) (ends g)));
      nodes = λ q c. in_reach s g p q (r.same.1 q c);
    }

-- ---- the laws

pub verdict_one : RefinementExists → VerdictIsOne
verdict_one exists s terms g f budget loaded p =
    let c = closed s g loaded p in
    let (known, refined) = exists s terms g f c.all budget loaded c.distinct in
    let (v, is) = some_verdict known p in (
      v,
      (λ all whole apart closed_all held_all refined_all. (closed_local s terms g f budget c.all all known whole c.held closed_all refined refined_all p c.there held_all v).0 is),
      (λ w h. one_verdict known p v w is (h c.all known c.distinct c.held c.there refined)),
    )

pub unknown_wide : RefinementExists → NarrowIsKnown → WidthIsOne → UnknownIsWide
unknown_wide exists law widths s terms g f budget loaded strat p unknown =
    let c = closed s g loaded p in
    let (known, refined) = exists s terms g f c.all budget loaded c.distinct in
    let none = unknown c.all known c.distinct c.held c.there refined in
    leads_wide s loaded g c.all widths terms budget p (λ q leads. led_there s g c.all c.held p q c.there leads)
    (λ narrow. elim (law s terms g f c.all budget known loaded strat c.held refined p c.there narrow) [ inl y ↦ none.0 y | inr n ↦ none.1 n ])

pub verdict_true : RefinementExists → RefinementIsTrue → VerdictIsTrue
verdict_true exists law s terms g f budget U T loaded typing holds p node =
    let c = closed s g loaded p in
    let (known, refined) = exists s terms g f c.all budget loaded c.distinct in
    let agrees = law s terms g f U T loaded typing c.all budget over known refined in (
      (λ h. agrees.0 p (h c.all known c.distinct c.held c.there refined)),
      (λ h. agrees.1 p (h c.all known c.distinct c.held c.there refined)),
    )
  where
    in_ends : (n : TermId) → Contains (ends g) n → Contains U n
    in_ends n e =
        let (t, held, is) = from_flat_map ends_of g n e in
        elim (in_rest t.s (t.o ∷ []) n is) [
          | inl a ↦ subst (λ z. Contains U z) a (holds t held).0
          | inr l ↦ (elim (in_rest t.o [] n l) [ inl b ↦ subst (λ z. Contains U z) b (holds t held).1 | inr m ↦ absurd (not_in_none n m) ])
        ]

    over : (q : Pair) → Contains (closed s g loaded p).all q → Contains U q.node
    over q held = elim ((closed s g loaded p).nodes q held) [ inl e ↦ subst (λ z. Contains U z.node) e node | inr l ↦ in_ends q.node l ]
