-- Two nodes that know each other: both have a Shape that asks no more, and neither one that asks for a name too.
use Rattle.std.proofs.Common.{◌≡◌, ℕ, ◌<◌, ◌≤◌, true, true≢false, inl, inr, List, [], ◌∷◌, refl, arith, sym, subst, ap}
use Rattle.std.proofs.lemmas.Bool.{eqb-true}
use Rattle.std.specs.Prelude.{Contains, Some, None}
use Rattle.std.proofs.lemmas.List.Sorted.{IsPermutation-refl, IsPermutation-sym, IsPermutation-append_comm, Contains-permutation}
use Rattle.rdf_terms.specs.declared.terms.TermId.{TermId}
use Rattle.rdf_terms.specs.declared.terms.Triple.{Triple}
use Rattle.tally.specs.declared.Bound.TheVariants.{Free}
use Rattle.tally.specs.Plan.{sym as symbol, many}
use Rattle.schema_tree.specs.declared.schema.ExprId.{ExprId}
use Rattle.schema_tree.specs.declared.schema.ShapeId.{ShapeId}
use Rattle.schema_tree.specs.declared.schema.Occurrence.{Occurrence}
use Rattle.schema_tree.specs.declared.schema.Pair.{Pair}
use Rattle.schema_tree.specs.Edges.{level}
use Rattle.schema_tree.specs.Matches.{Matches, Takes, fits}
use Rattle.schema_tree.specs.Samples.{terms, ann, bob, knows, name, text_a, arc, shape_id, expr_id, out_arc, both}
use Rattle.schema_tree.specs.Satisfies.{Sat, SatWithin}
use Rattle.schema_tree.specs.Shapes.{ShapeOk, MatchesBody}
use Rattle.schema_tree.specs.Typings.{IsRival, IsTheTyping}
use Rattle.schema_tree.specs.WorkedTypings.{AcquaintedBothHold, BrokenChainFalls, pair_of, acquainted, knows_such, named_and_knows}
use Rattle.schema_tree.proofs.Dealt.{arc_in_left, from_matched, two_singles}
use Rattle.schema_tree.proofs.FewEdges.{alone_on_0}
use Rattle.lists.proofs.Members.{not_in_none, in_one, in_rest, is_first, is_later}

-- a pair by its node and the number of its Shape
pub same_pair : (q : Pair) (n : TermId) (i : ℕ) → n ≡ q.node → i ≡ q.shape.0 → pair_of n i ≡ q
same_pair q n i e z =
    let at_shape : ShapeId → Type 0 = λ j. pair_of n i ≡ record { node = q.node; shape = j } in
    let same_shape : shape_id i ≡ q.shape = ap (λ k. shape_id k) z in
    subst at_shape same_shape (ap (λ m. pair_of m i) e)

abbrev ann_to_bob : Triple
ann_to_bob = arc ann knows bob

abbrev bob_to_ann : Triple
bob_to_ann = arc bob knows ann

abbrev knows_one : Occurrence
knows_one = out_arc knows (Some (expr_id 0))

abbrev both_hold : List Pair
both_hold = pair_of ann 0 ∷ pair_of bob 0 ∷ []

has_bob : Contains both_hold (pair_of bob 0)
has_bob = is_later (pair_of ann 0) (pair_of bob 0 ∷ []) _ (is_first (pair_of bob 0) [])

abbrev sat : TermId → ExprId → Type 0
sat = Sat knows_such terms both_hold

-- one triple out is taken by the repetition
takes_one : (n : TermId) (t : Triple) → Takes sat n (Some knows_one) t → MatchesBody sat (knows_one ∷ []) n (Some (many 0 Free (symbol 0))) (t ∷ [])
unfolding Matches
takes_one n t h = ((t ∷ []) ∷ [], omega arith, tt, IsPermutation-refl (t ∷ []), ((t, refl, h), tt))

ann_has : ShapeOk knows_such terms acquainted both_hold ann (shape_id 0)
unfolding SatWithin
ann_has = (
  ann_to_bob ∷ [],
  bob_to_ann ∷ [],
  IsPermutation-refl acquainted,
  takes_one ann ann_to_bob (refl, has_bob),
  arc_in_left _ _ ann bob_to_ann (λ e. let k : 1 ≡ 0 = ap (λ x. x.0) e in omega arith),
)

bob_has : ShapeOk knows_such terms acquainted both_hold bob (shape_id 0)
unfolding SatWithin
bob_has = (
  bob_to_ann ∷ [],
  ann_to_bob ∷ [],
  IsPermutation-append_comm (ann_to_bob ∷ []) (bob_to_ann ∷ []),
  takes_one bob bob_to_ann (refl, is_first (pair_of ann 0) (pair_of bob 0 ∷ [])),
  arc_in_left _ _ bob ann_to_bob (λ e. let k : 0 ≡ 1 = ap (λ x. x.0) e in omega arith),
)

-- every pair over the nodes and the Shape is one of the two
one_of_both : (p : Pair) → Contains (ann ∷ bob ∷ []) p.node → p.shape.0 < 1 → Contains both_hold p
one_of_both p held within = elim (in_rest ann (bob ∷ []) p.node held) [
  | inl e ↦ subst (λ q. Contains both_hold q) (same_pair p ann 0 e (omega arith)) (is_first (pair_of ann 0) (pair_of bob 0 ∷ []))
  | inr later ↦ subst (λ q. Contains both_hold q) (same_pair p bob 0 (in_one bob p.node later) (omega arith)) has_bob
]

pub both_typed : IsTheTyping knows_such terms acquainted (0 ∷ []) (ann ∷ bob ∷ []) both_hold
both_typed = record {
  over = λ p h.
      let F : Pair → Type 0 = λ q. Contains (ann ∷ bob ∷ []) q.node × (q.shape.0 < 1) × (level (0 ∷ []) q.shape ≤ 0) in
      elim (in_rest (pair_of ann 0) (pair_of bob 0 ∷ []) p h) [
        | inl e ↦ subst F e (is_first ann (bob ∷ []), omega arith, omega arith)
        | inr later ↦ subst F (in_one (pair_of bob 0) p later) (is_later ann (bob ∷ []) bob (is_first bob []), omega arith, omega arith)
      ];
  correct = λ p h at. elim (in_rest (pair_of ann 0) (pair_of bob 0 ∷ []) p h) [
    | inl e ↦ subst (λ q. ShapeOk knows_such terms acquainted both_hold q.node q.shape) e ann_has
    | inr later ↦ subst (λ q. ShapeOk knows_such terms acquainted both_hold q.node q.shape) (in_one (pair_of bob 0) p later) bob_has
  ];
  greatest = λ W rival p h. let over = rival.over p h in one_of_both p over.0 over.1;
}

abbrev name_a : Triple
name_a = arc ann name text_a

abbrev one_named : List Triple
one_named = name_a ∷ acquainted

-- the one with a name is <ann>
named_ann : (n : TermId) (t : Triple) → Contains one_named t → fits (out_arc name None) n t ≡ true → n ≡ ann
named_ann n t held fit =
    let F : Triple → Type 0 = λ u. fits (out_arc name None) n u ≡ true in
    elim (in_rest name_a acquainted t held) [
      | inl e ↦ let z : 0 ≡ n.0 = eqb-true 0 n.0 (subst F (sym e) fit) in ap (λ k. record { 0 = k }) (sym z)
      | inr later ↦ elim (in_rest ann_to_bob (bob_to_ann ∷ []) t later) [
        | inl e ↦ absurd (true≢false (sym (subst F (sym e) fit)))
        | inr last ↦ absurd (true≢false (sym (subst F (sym (in_one bob_to_ann t last)) fit)))
      ]
    ]

module _ (W : List Pair) where
  -- whom <ann> knows has the Shape where she has it
  knows_bob : (t : Triple) → Contains one_named t → Takes (Sat named_and_knows terms W) ann (Some knows_one) t → Contains W (pair_of bob 0)
  unfolding SatWithin
  knows_bob t held taken =
      let F : Triple → Type 0 = λ u. Takes (Sat named_and_knows terms W) ann (Some knows_one) u in
      elim (in_rest name_a acquainted t held) [
        | inl e ↦ absurd (true≢false (sym (subst F (sym e) taken).0))
        | inr later ↦ elim (in_rest ann_to_bob (bob_to_ann ∷ []) t later) [
          | inl e ↦ (subst F (sym e) taken).1
          | inr last ↦ absurd (true≢false (sym (subst F (sym (in_one bob_to_ann t last)) taken).0))
        ]
      ]

  -- who has the Shape is <ann>, and then <bob> has it
  chain_goes_on : (n : TermId) → ShapeOk named_and_knows terms one_named W n (shape_id 0) → (n ≡ ann) × Contains W (pair_of bob 0)
  chain_goes_on n (matched, rest, deals, body, ok) =
      let sat' : TermId → ExprId → Type 0 = Sat named_and_knows terms W in
      let occs : List Occurrence = out_arc name None ∷ knows_one ∷ [] in
      let (x, y, split, takes_x, takes_y) = two_singles sat' occs n matched body in
      let in_graph : (t : Triple) → Contains (x ∷ y ∷ []) t → Contains one_named t =
      λ t h. from_matched one_named n matched rest t deals (Contains-permutation _ _ t (IsPermutation-sym _ _ split) h) in
      let is_ann : n ≡ ann = named_ann n x (in_graph x (is_first x (y ∷ []))) takes_x.0 in
      (is_ann, knows_bob y (in_graph y (is_later x (y ∷ []) y (is_first y []))) (subst (λ m. Takes sat' m (Some knows_one) y) is_ann takes_y))

-- no typing that is correct has a pair
nobody :
    (U : List TermId) (T W : List Pair) → IsRival named_and_knows terms one_named (0 ∷ []) U T 0 W →
    (p : Pair) → ¬ Contains W p
nobody U T W rival p held =
    let has : (q : Pair) → Contains W q → (q.node ≡ ann) × Contains W (pair_of bob 0) =
    λ q h.
    let within = rival.over q h in
    let low : level (0 ∷ []) q.shape ≤ 0 = within.2 in
    let zero_is : 0 ≡ q.shape.0 = omega (arith, within.1) in
    let there : ShapeOk named_and_knows terms one_named W q.node q.shape = rival.correct q h (omega (arith, low)) in
    chain_goes_on W q.node (subst (λ i. ShapeOk named_and_knows terms one_named W q.node i) (ap (λ k. shape_id k) (sym zero_is)) there) in
    let bob_is_ann : bob ≡ ann = (has (pair_of bob 0) (has p held).1).0 in
    let k : 1 ≡ 0 = ap (λ n. n.0) bob_is_ann in
    omega (arith, k)

pub none_typed : IsTheTyping named_and_knows terms one_named (0 ∷ []) (ann ∷ bob ∷ text_a ∷ []) []
none_typed = record {
  over = λ p h. absurd (not_in_none p h);
  correct = λ p h at. absurd (not_in_none p h);
  greatest = λ W rival p h. absurd (nobody (ann ∷ bob ∷ text_a ∷ []) [] W rival p h);
}

pub acquainted_hold : AcquaintedBothHold
acquainted_hold = (
  alone_on_0 (many 0 Free (symbol 0)) (knows_one ∷ []) (λ o h. inr (ap (λ q. q.value) (sym (in_one knows_one o h)))),
  both_typed,
)

pub broken_chain : BrokenChainFalls
broken_chain = (
  alone_on_0 both (out_arc name None ∷ knows_one ∷ []) (λ o h. elim (in_rest (out_arc name None) (knows_one ∷ []) o h) [
    | inl e ↦ inl (ap (λ q. q.value) (sym e))
    | inr later ↦ inr (ap (λ q. q.value) (sym (in_one knows_one o later)))
  ]),
  none_typed,
)
