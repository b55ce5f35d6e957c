-- A negated reference looks at the stratum below.
use Rattle.std.proofs.Common.{◌≡◌, ℕ, zero, suc, ◌<◌, ◌≤◌, Bool, true, true≢false, inl, inr, List, [], ◌∷◌, refl, arith, sym, subst, ap}
use Rattle.std.proofs.lemmas.Bool.{eqb-true}
use Rattle.std.specs.Prelude.{Contains, Some, None, ◌⊎◌, slice_get, slice_index, nat_lt}
use Rattle.std.proofs.lemmas.List.Sorted.{IsPermutation-refl, IsPermutation-append_comm}
use Rattle.rdf_terms.specs.declared.terms.TermId.{TermId}
use Rattle.rdf_terms.specs.declared.terms.Triple.{Triple}
use Rattle.tally.specs.Plan.{sym as symbol}
use Rattle.schema_tree.specs.declared.schema.Expr.TheVariants as Exprs
use Rattle.schema_tree.specs.declared.schema.ExprId.{ExprId}
use Rattle.schema_tree.specs.declared.schema.Occurrence.{Occurrence}
use Rattle.schema_tree.specs.declared.schema.Pair.{Pair}
use Rattle.schema_tree.specs.declared.schema.Schema.{Schema}
use Rattle.schema_tree.specs.declared.schema.Shape.{Shape}
use Rattle.schema_tree.specs.declared.schema.ShapeId.{ShapeId}
use Rattle.schema_tree.specs.Edges.{Edge, IsStratum, IsStratumOf, Path, StandsIn, StandsInValue, stay, by_any, by_negative, itself, in_and, in_or, in_not, level}
use Rattle.schema_tree.specs.Entries.{entry}
use Rattle.schema_tree.specs.Matches.{Matches, Takes, fits}
use Rattle.schema_tree.specs.Samples.{terms, ann, bob, cid, dan, knows, name, text_a, arc, shape_id, expr_id, out_arc, open_shape}
use Rattle.schema_tree.specs.Satisfies.{Sat, SatWithin}
use Rattle.schema_tree.specs.Shapes.{ShapeOk}
use Rattle.schema_tree.specs.Typings.{IsOver, IsGreatestAt, HaveSame, below}
use Rattle.schema_tree.specs.WorkedTypings.{NegationLooksBelow, pair_of, knows_nameless, one_is_named}
use Rattle.schema_tree.proofs.Dealt.{arc_in_left, from_matched, nothing_left}
use Rattle.lists.proofs.Filters.{in_filter, filter_has}
use Rattle.schema_tree.proofs.FewEdges.{in_shape}
use Rattle.schema_tree.proofs.Knowing.{same_pair}
use Rattle.lists.proofs.Members.{in_one, in_rest, is_first, is_later}

abbrev knows_not : Occurrence
knows_not = out_arc knows (Some (expr_id 1))

abbrev has_name : Occurrence
has_name = out_arc name None

-- whose Shape the pairs are: <ann> has S, <dan> has T
abbrev typed : List Pair
typed = pair_of ann 0 ∷ pair_of dan 1 ∷ []

abbrev typed_below : List Pair
typed_below = pair_of dan 1 ∷ []

-- S is on stratum 1 and T on stratum 0
abbrev strata : List ℕ
strata = 1 ∷ 0 ∷ []

abbrev nodes : List TermId
nodes = ann ∷ bob ∷ cid ∷ dan ∷ text_a ∷ []

abbrev ann_to_bob : Triple
ann_to_bob = arc ann knows bob

abbrev cid_to_dan : Triple
cid_to_dan = arc cid knows dan

abbrev dan_named : Triple
dan_named = arc dan name text_a

-- the only name is <dan>'s
named_dan : (n : TermId) (t : Triple) → Contains one_is_named t → fits has_name n t ≡ true → n ≡ dan
named_dan n t held fit =
    let F : Triple → Type 0 = λ u. fits has_name n u ≡ true in
    elim (in_rest ann_to_bob (cid_to_dan ∷ dan_named ∷ []) t held) [
      | inl e ↦ absurd (true≢false (sym (subst F (sym e) fit)))
      | inr later ↦ elim (in_rest cid_to_dan (dan_named ∷ []) t later) [
        | inl e ↦ absurd (true≢false (sym (subst F (sym e) fit)))
        | inr last ↦ let z : 3 ≡ n.0 = eqb-true 3 n.0 (subst F (sym (in_one dan_named t last)) fit) in ap (λ k. record { 0 = k }) (sym z)
      ]
    ]

has_dan : Contains nodes dan
has_dan = (3, omega arith, refl)

bob_has_not : ¬ Contains typed (pair_of bob 1)
bob_has_not h =
    let node_of : Pair → ℕ = λ p. p.node.0 in
    elim (in_rest (pair_of ann 0) typed_below (pair_of bob 1) h) [
      | inl e ↦ let k : 0 ≡ 1 = ap node_of e in omega (arith, k)
      | inr later ↦ let k : 3 ≡ 1 = ap node_of (in_one (pair_of dan 1) (pair_of bob 1) later) in omega (arith, k)
    ]

-- a number below 2
first_or_second : (k : ℕ) → k < 2 → (0 ≡ k) ⊎ (1 ≡ k)
first_or_second zero h = inl refl
first_or_second (suc zero) h = inr refl
first_or_second (suc (suc k)) h = absurd (omega (arith, h))

-- one of two Shapes by its number
one_of_two : (a b found : Shape) (k : ℕ) → slice_get (a ∷ b ∷ []) k ≡ Some found → ((0 ≡ k) × (a ≡ found)) ⊎ ((1 ≡ k) × (b ≡ found))
one_of_two a b found zero is = inl (refl, cc)
one_of_two a b found (suc zero) is = inr (refl, cc)
one_of_two a b found (suc (suc k)) is = absurd (cc)

abbrev schema : Schema
schema = knows_nameless

-- S: { <knows> NOT @<T> }
abbrev shape_s : Shape
shape_s = open_shape [] (symbol 0) (knows_not ∷ [])

-- T: { <name> . }
abbrev shape_t : Shape
shape_t = open_shape [] (symbol 0) (has_name ∷ [])

-- who has T is <dan>
t_is_dan : (W : List Pair) (n : TermId) → ShapeOk schema terms one_is_named W n (shape_id 1) → n ≡ dan
unfolding Matches
t_is_dan W n (matched, rest, deals, body, ok) =
    let (t, single, takes) = body in
    let held : Contains one_is_named t = from_matched one_is_named n matched rest t deals (subst (λ ts. Contains ts t) (sym single) (is_first t [])) in
    named_dan n t held takes.0

-- who has S is <ann>, or <cid> where <dan> has not T
s_is_ann :
    (W : List Pair) (n : TermId) → ShapeOk schema terms one_is_named W n (shape_id 0) →
    (n ≡ ann) ⊎ (¬ Contains W (pair_of dan 1))
unfolding Matches SatWithin
s_is_ann W n (matched, rest, deals, body, ok) =
    let (t, single, takes) = body in
    let held : Contains one_is_named t = from_matched one_is_named n matched rest t deals (subst (λ ts. Contains ts t) (sym single) (is_first t [])) in
    let F : Triple → Type 0 = λ u. Takes (Sat schema terms W) n (Some knows_not) u in
    elim (in_rest ann_to_bob (cid_to_dan ∷ dan_named ∷ []) t held) [
      | inl e ↦ let z : 0 ≡ n.0 = eqb-true 0 n.0 (subst F (sym e) takes).0 in inl (ap (λ k. record { 0 = k }) (sym z))
      | inr later ↦ elim (in_rest cid_to_dan (dan_named ∷ []) t later) [
        | inl e ↦ inr (subst F (sym e) takes).1
        | inr last ↦ absurd (true≢false (sym (subst F (sym (in_one dan_named t last)) takes).0))
      ]
    ]

-- <dan> has T
dan_has : ShapeOk schema terms one_is_named typed_below dan (shape_id 1)
unfolding Matches
dan_has = (
  dan_named ∷ [],
  cid_to_dan ∷ [],
  IsPermutation-append_comm (cid_to_dan ∷ []) (dan_named ∷ []),
  (dan_named, refl, (refl, tt)),
  arc_in_left _ _ dan cid_to_dan (λ e. let k : 2 ≡ 3 = ap (λ x. x.0) e in omega arith),
)

-- <ann> has S, since <bob> has not T
ann_has : ShapeOk schema terms one_is_named typed ann (shape_id 0)
unfolding Matches SatWithin
ann_has = (
  ann_to_bob ∷ [],
  [],
  IsPermutation-refl (ann_to_bob ∷ []),
  (ann_to_bob, refl, (refl, bob_has_not)),
  nothing_left _ _ ann,
)

-- <ann> with S and <dan> with T are over the nodes
over_typed : IsOver schema strata nodes 1 typed
over_typed p h =
    let F : Pair → Type 0 = λ q. Contains nodes q.node × (q.shape.0 < 2) × (level strata q.shape ≤ 1) in
    elim (in_rest (pair_of ann 0) typed_below p h) [
      | inl e ↦ subst F e (is_first ann (bob ∷ cid ∷ dan ∷ text_a ∷ []), omega arith, omega arith)
      | inr later ↦ subst F (in_one (pair_of dan 1) p later) (has_dan, omega arith, omega arith)
    ]

over_below : IsOver schema strata nodes 0 typed_below
over_below p h =
    let F : Pair → Type 0 = λ q. Contains nodes q.node × (q.shape.0 < 2) × (level strata q.shape ≤ 0) in
    subst F (in_one (pair_of dan 1) p h) (has_dan, omega arith, omega arith)

-- of the lower stratum: <dan> alone has T
lower : IsGreatestAt schema terms one_is_named strata nodes typed_below 0
lower = record {
  over = over_below;
  correct = λ p h at. subst (λ q. ShapeOk schema terms one_is_named typed_below q.node q.shape) (in_one (pair_of dan 1) p h) dan_has;
  greatest = λ W rival p h.
      let within = rival.over p h in
      let low : level strata p.shape ≤ 0 = within.2 in
      elim (first_or_second p.shape.0 within.1) [
        | inl is_s ↦ let high : 1 ≤ 0 = subst (λ k. slice_index strata k ≤ 0) (sym is_s) low in absurd (omega (arith, high))
        | inr is_t ↦
            let there : ShapeOk schema terms one_is_named W p.node p.shape = rival.correct p h (omega (arith, low)) in
            let is_dan : p.node ≡ dan = t_is_dan W p.node (subst (λ i. ShapeOk schema terms one_is_named W p.node i) (ap (λ k. shape_id k) (sym is_t)) there) in
            subst (λ q. Contains typed_below q) (same_pair p dan 1 (sym is_dan) is_t) (is_first (pair_of dan 1) [])
      ];
}

-- what is typed below the upper stratum
from_below : (W : List Pair) → HaveSame (below strata 1 W) (below strata 1 typed) → (p : Pair) → Contains W p → 1 ≡ p.shape.0 → Contains typed p
from_below W same p h is_t =
    let low : nat_lt (level strata p.shape) 1 ≡ true = subst (λ k. nat_lt (slice_index strata k) 1 ≡ true) is_t refl in
    is_later (pair_of ann 0) typed_below p (same.0 p (filter_has (λ q. nat_lt (level strata q.shape) 1) W p h low))

-- of the upper: <ann> alone has S
upper : IsGreatestAt schema terms one_is_named strata nodes typed 1
upper = record {
  over = over_typed;
  correct = λ p h at. elim (in_rest (pair_of ann 0) typed_below p h) [
    | inl e ↦ subst (λ q. ShapeOk schema terms one_is_named typed q.node q.shape) e ann_has
    | inr later ↦ let k : 0 ≡ 1 = subst (λ q. level strata q.shape ≡ 1) (sym (in_one (pair_of dan 1) p later)) at in absurd (omega (arith, k))
  ];
  greatest = λ W rival p h.
      let same : HaveSame (below strata 1 W) (below strata 1 typed) = rival.agrees in
      let within = rival.over p h in
      elim (first_or_second p.shape.0 within.1) [
        | inr is_t ↦ from_below W same p h is_t
        | inl is_s ↦
            let at : level strata p.shape ≡ 1 = subst (λ k. slice_index strata k ≡ 1) is_s refl in
            let there : ShapeOk schema terms one_is_named W p.node p.shape = rival.correct p h at in
            elim (s_is_ann W p.node (subst (λ i. ShapeOk schema terms one_is_named W p.node i) (ap (λ k. shape_id k) (sym is_s)) there)) [
              | inl is_ann ↦ subst (λ q. Contains typed q) (same_pair p ann 0 (sym is_ann) is_s) (is_first (pair_of ann 0) typed_below)
              | inr without ↦ absurd (without (in_filter _ W (pair_of dan 1) (same.1 (pair_of dan 1) (is_first (pair_of dan 1) []))).0)
            ]
      ];
}

-- behind a ShapeNot stands what stands in its member
in_negated : (t : ShapeId) (e m : ExprId) (sign : Bool) → entry schema e ≡ Some (Exprs.Not m) → StandsIn schema t e sign → (inner : Bool) × StandsIn schema t m inner
in_negated t e m sign is (itself at) = absurd (cc)
in_negated t e m sign is (in_and es k at held deeper) = absurd (cc)
in_negated t e m sign is (in_or es k at held deeper) = absurd (cc)
in_negated t e m sign is (in_not {sign = inner} k at deeper) = (inner, subst (λ x. StandsIn schema t x inner) (cc) deeper)

-- every edge leads from S to T
s_to_t : (i t : ShapeId) → Edge schema i t → (0 ≡ i.0) × (1 ≡ t.0)
s_to_t i t e = elim (one_of_two shape_s shape_t e.shape i.0 e.is) [
  | inl (first, same) ↦
      let occ_is : knows_not ≡ e.occ = in_one knows_not e.occ (subst (λ sh. Contains sh.occs e.occ) (sym same) e.of) in
      let stands : StandsIn schema t (expr_id 1) e.sign = subst (λ o. StandsInValue schema t o.value e.sign) (sym occ_is) e.stands in
      let (inner, deeper) = in_negated t (expr_id 1) (expr_id 0) e.sign refl stands in
      let is_t : t ≡ shape_id 1 = (in_shape schema (shape_id 1) t (expr_id 0) inner refl deeper).1 in
      (first, ap (λ j. j.0) (sym is_t))
  | inr (second, same) ↦
      let occ_is : has_name ≡ e.occ = in_one has_name e.occ (subst (λ sh. Contains sh.occs e.occ) (sym same) e.of) in
      let nothing : ⊥ = subst (λ o. StandsInValue schema t o.value e.sign) (sym occ_is) e.stands in
      absurd nothing
]

-- so a path from T stays there
from_t : (i t : ShapeId) (k : ℕ) → 1 ≡ i.0 → Path schema i t k → k ≡ 0
from_t i t k is stay = refl
from_t i t k is (by_any j e rest) = let z : 0 ≡ i.0 = (s_to_t i j e).0 in absurd (omega (arith, z, is))
from_t i t _ is (by_negative j e negative rest) = let z : 0 ≡ i.0 = (s_to_t i j e).0 in absurd (omega (arith, z, is))

-- and each path counts one negative edge at most
one_at_most : (i t : ShapeId) (k : ℕ) → Path schema i t k → k ≤ 1
one_at_most i t k stay = omega arith
one_at_most i t k (by_any j e rest) = let z : k ≡ 0 = from_t j t k (s_to_t i j e).1 rest in omega (arith, z)
one_at_most i t _ (by_negative {k = m} j e negative rest) = let z : m ≡ 0 = from_t j t m (s_to_t i j e).1 rest in omega (arith, z)

abbrev the_edge : Edge schema (shape_id 0) (shape_id 1)
the_edge = record {
  shape = shape_s;
  is = refl;
  occ = knows_not;
  of = is_first knows_not [];
  sign = true;
  stands = in_not (expr_id 0) refl (itself refl);
}

two_strata : IsStratum schema strata
two_strata = (
  refl,
  λ i within. elim (first_or_second i.0 within) [
    | inl first ↦
        subst (λ j. IsStratumOf schema j (level strata j)) (ap (λ k. shape_id k) first)
        ((shape_id 1, by_negative (shape_id 1) the_edge (inl refl) stay), λ t m path. one_at_most (shape_id 0) t m path)
    | inr second ↦
        subst (λ j. IsStratumOf schema j (level strata j)) (ap (λ k. shape_id k) second)
        ((shape_id 1, stay), λ t m path. let z : m ≡ 0 = from_t (shape_id 1) t m refl path in omega (arith, z))
  ],
)

pub negation_below : NegationLooksBelow
negation_below = (two_strata, (upper, lower))
