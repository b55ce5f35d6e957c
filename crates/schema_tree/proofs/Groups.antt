-- Loops, groups that are repeated, and choices.
use Rattle.std.proofs.Common.{◌≡◌, ◌≤◌, List, [], ◌∷◌, ◌++◌, refl, arith, length, sym, subst, ap, Contains, None, inl, inr, length-append}
use Rattle.std.proofs.lemmas.List.Sorted.{IsPermutation-refl, IsPermutation-cons, IsPermutation-append_comm, length_permutation}
use Rattle.rdf_terms.specs.declared.terms.TermId.{TermId}
use Rattle.rdf_terms.specs.declared.terms.Triple.{Triple}
use Rattle.tally.specs.declared.Bound.TheVariants.{Upto}
use Rattle.tally.specs.Plan.{Plan, sym as symbol, each, many, row}
use Rattle.schema_tree.specs.declared.schema.ExprId.{ExprId}
use Rattle.schema_tree.specs.declared.schema.Occurrence.{Occurrence}
use Rattle.schema_tree.specs.declared.schema.Pair.{Pair}
use Rattle.schema_tree.specs.Satisfies.{Sat}
use Rattle.schema_tree.specs.Matches.{Matches}
use Rattle.schema_tree.specs.Samples.{terms, ann, bob, knows, name, text_a, text_b, arc, shape_id, out_arc, open_shape, either}
use Rattle.schema_tree.specs.Shapes.{ShapeOk, RestOk}
use Rattle.schema_tree.specs.WorkedShapes.{LoopServesInverse, GroupIsRepeated, GroupWantsEachCopy, OneOfTakesOne, repeated, either_one}
use Rattle.lists.proofs.Members.{in_one, in_rest, is_first, is_later}
use Rattle.schema_tree.proofs.Dealt.{one_a_part, counted, from_remainder, nothing_left}

abbrev loop : Triple
loop = arc ann knows ann

pub loop_serves : LoopServesInverse
unfolding Matches
loop_serves typing = (
  refl,
  (
    loop ∷ [],
    [],
    IsPermutation-refl (loop ∷ []),
    (loop, refl, (refl, tt)),
    nothing_left _ _ ann,
  ),
)

abbrev name_a : Triple
name_a = arc ann name text_a

abbrev name_b : Triple
name_b = arc ann name text_b

abbrev to_bob : Triple
to_bob = arc ann knows bob

abbrev group : Plan
group = each (row (symbol 0 ∷ many 0 (Upto 1) (symbol 1) ∷ []))

abbrev names_and_knows : List Occurrence
names_and_knows = out_arc name None ∷ out_arc knows None ∷ []

-- a name with an acquaintance is a copy of the group
with_bob : (sat : TermId → ExprId → Type 0) → Matches sat names_and_knows ann group (name_a ∷ to_bob ∷ [])
unfolding Matches
with_bob sat = (
  (name_a ∷ []) ∷ (to_bob ∷ []) ∷ [],
  IsPermutation-refl (name_a ∷ to_bob ∷ []),
  ((name_a, refl, (refl, tt)), (((to_bob ∷ []) ∷ [], omega arith, omega arith, IsPermutation-refl (to_bob ∷ []), ((to_bob, refl, (refl, tt)), tt)), tt)),
)

-- a name without an acquaintance is a copy of the group
without : (sat : TermId → ExprId → Type 0) → Matches sat names_and_knows ann group (name_b ∷ [])
unfolding Matches
without sat = (
  (name_b ∷ []) ∷ [] ∷ [],
  IsPermutation-refl (name_b ∷ []),
  ((name_b, refl, (refl, tt)), (([], omega arith, omega arith, IsPermutation-refl [], tt), tt)),
)

pub group_repeated : GroupIsRepeated
unfolding Matches
group_repeated typing =
    let sat : TermId → ExprId → Type 0 = Sat repeated terms typing in (
      name_a ∷ name_b ∷ to_bob ∷ [],
      [],
      IsPermutation-refl (name_a ∷ name_b ∷ to_bob ∷ []),
      (
        (name_a ∷ to_bob ∷ []) ∷ (name_b ∷ []) ∷ [],
        omega arith,
        omega arith,
        IsPermutation-cons name_a _ _ (IsPermutation-append_comm (name_b ∷ []) (to_bob ∷ [])),
        (with_bob sat, (without sat, tt)),
      ),
      nothing_left _ _ ann,
    )

-- a copy of the group has a triple
one_at_least :
    (sat : TermId → ExprId → Type 0) (occs : List Occurrence) (n : TermId) (ts : List Triple) → Matches sat occs n group ts → 1 ≤ length ts
unfolding Matches
one_at_least sat occs n ts ([], dealt, h) = absurd h
one_at_least sat occs n ts (x ∷ [], dealt, h) = absurd h.1
one_at_least sat occs n ts (x ∷ y ∷ [], dealt, ((a, ea, ta), more)) =
    let long : length (x ++ (y ++ [])) ≡ length ts = length_permutation _ _ dealt in
    let single : length x ≡ 1 = ap (λ z. length z) ea in
    omega (arith, long, single, length-append x (y ++ []))
one_at_least sat occs n ts (x ∷ y ∷ z ∷ more, dealt, h) = absurd h.1.1

pub group_wants : GroupWantsEachCopy
unfolding Matches
group_wants typing (matched, rest, deals, body, ok) =
    let sat : TermId → ExprId → Type 0 = Sat repeated terms typing in
    let (parts, enough, most, dealt, all) = body in
    let long : _ ≡ length matched = length_permutation _ _ dealt in
    omega (arith, enough, long, counted (name_a ∷ []) matched rest deals, one_a_part sat names_and_knows ann group (one_at_least sat names_and_knows ann) parts all)

-- a OneOf of two constraints is matched by one triple
one_alone : (sat : TermId → ExprId → Type 0) (occs : List Occurrence) (n : TermId) (ts : List Triple) → Matches sat occs n either ts → length ts ≡ 1
unfolding Matches
one_alone sat occs n ts (inl (a, e, t)) = ap (λ z. length z) e
one_alone sat occs n ts (inr (inl (a, e, t))) = ap (λ z. length z) e
one_alone sat occs n ts (inr (inr h)) = absurd h

-- a name alone is matched by the first member
pub choice_met : (extra : List TermId) (typing : List Pair) → ShapeOk (either_one extra) terms (name_a ∷ []) typing ann (shape_id 0)
unfolding Matches
choice_met extra typing = (
  name_a ∷ [],
  [],
  IsPermutation-refl (name_a ∷ []),
  inl (name_a, refl, (refl, tt)),
  nothing_left _ _ ann,
)

-- neither of the two triples may be left over
none_left :
    (sat : TermId → ExprId → Type 0) (extra : List TermId) (rest : List Triple) → RestOk sat (open_shape extra either names_and_knows) ann rest →
    (u : Triple) → Contains rest u → Contains (name_a ∷ to_bob ∷ []) u → ⊥
none_left sat extra rest ok u held one =
    let of_name : Contains names_and_knows (out_arc name None) = is_first (out_arc name None) (out_arc knows None ∷ []) in
    let of_knows : Contains names_and_knows (out_arc knows None) = is_later (out_arc name None) (out_arc knows None ∷ []) _ (is_first (out_arc knows None) []) in
    elim (in_rest name_a (to_bob ∷ []) u one) [
      | inl same ↦ ok.unmatched name_a (out_arc name None) (subst (λ z. Contains rest z) (sym same) held) (refl, (out_arc name None, of_name, refl, refl)) of_name refl (refl, tt)
      | inr later ↦
          ok.unmatched to_bob (out_arc knows None) (subst (λ z. Contains rest z) (sym (in_one to_bob u later)) held) (refl, (out_arc knows None, of_knows, refl, refl)) of_knows
          refl (refl, tt)
    ]

-- a list that is not empty has an item
some_item : (ts : List Triple) → 1 ≤ length ts → (u : Triple) × Contains ts u
some_item [] h = absurd (omega (arith, h))
some_item (u ∷ ts) h = (u, is_first u ts)

pub choice_is_one : OneOfTakesOne
choice_is_one extra typing = (
  choice_met extra typing,
  λ (matched, rest, deals, body, ok).
      let sat : TermId → ExprId → Type 0 = Sat (either_one extra) terms typing in
      let single : length matched ≡ 1 = one_alone sat names_and_knows ann matched body in
      let (u, held) = some_item rest (omega (arith, single, counted (name_a ∷ to_bob ∷ []) matched rest deals)) in
      none_left sat extra rest ok u held (from_remainder (name_a ∷ to_bob ∷ []) matched rest u deals held),
)
