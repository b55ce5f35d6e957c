-- What two constraints on one predicate share.
use Rattle.std.proofs.Common.{◌≡◌, ◌+◌, ◌<◌, List, [], ◌∷◌, ◌++◌, refl, arith, length, subst, Contains, Some, inl, inr, length-append}
use Rattle.std.proofs.lemmas.List.Elements.{Contains-append_cases}
use Rattle.std.proofs.lemmas.List.Sorted.{IsPermutation-refl, IsPermutation-append_comm, length_permutation, Contains-permutation}
use Rattle.rdf_terms.specs.declared.terms.TermId.{TermId}
use Rattle.rdf_terms.specs.declared.terms.Triple.{Triple}
use Rattle.schema_tree.specs.declared.schema.Pair.{Pair}
use Rattle.schema_tree.specs.Satisfies.{Sat, SatWithin}
use Rattle.schema_tree.specs.Matches.{Matches, Takes}
use Rattle.schema_tree.specs.Samples.{terms, ann, bob, name, text_a, arc, shape_id, expr_id, out_arc}
use Rattle.schema_tree.specs.Shapes.{ShapeOk}
use Rattle.schema_tree.specs.WorkedShapes.{TwoConstraintsShareTriples, NoTripleServesTwice, two_names, literal_twice}
use Rattle.lists.proofs.Members.{not_in_none, in_one, in_rest, is_first}
use Rattle.schema_tree.proofs.Dealt.{two_singles, counted}

abbrev to_bob : Triple
to_bob = arc ann name bob

abbrev to_text : Triple
to_text = arc ann name text_a

pub constraints_share : TwoConstraintsShareTriples
unfolding Matches SatWithin
constraints_share typing = (
  to_text ∷ to_bob ∷ [],
  [],
  IsPermutation-append_comm (to_bob ∷ []) (to_text ∷ []),
  ((to_text ∷ []) ∷ (to_bob ∷ []) ∷ [], IsPermutation-refl (to_text ∷ to_bob ∷ []), ((to_text, refl, (refl, record { kind = tt; datatype = tt; facets = tt; values = tt })), ((to_bob, refl, (refl, tt)), tt))),
  record {
    unmatched = λ t o h. absurd (not_in_none t h);
    in_extra = λ t h. absurd (not_in_none t h);
    in_closed = λ e t h. absurd (not_in_none t h);
  },
)

module _ (extra : List TermId) (typing : List Pair) where
  -- a triple that is taken ends in a literal
  not_to_bob : (a : Triple) → Takes (Sat (literal_twice extra) terms typing) ann (Some (out_arc name (Some (expr_id 0)))) a → a ≡ to_bob → ⊥
  unfolding SatWithin
  not_to_bob a h e = let P : Triple → Type 0 = λ u. Takes (Sat (literal_twice extra) terms typing) ann (Some (out_arc name (Some (expr_id 0)))) u in (subst P e h).1.kind

  shared_out : ¬ ShapeOk (literal_twice extra) terms two_names typing ann (shape_id 0)
  shared_out (matched, rest, deals, body, ok) =
      let (a, b, split, ta, tb) = two_singles (Sat (literal_twice extra) terms typing) _ ann matched body in
      let two_long : 2 ≡ length matched = length_permutation _ _ split in
      let whole : length matched + length rest ≡ 2 = counted two_names matched rest deals in
      let held : Contains (matched ++ (rest ++ [])) to_bob = Contains-permutation _ _ to_bob deals (is_first to_bob (to_text ∷ [])) in
      elim (Contains-append_cases matched (rest ++ []) to_bob held) [
        | inl m ↦ elim (in_rest a (b ∷ []) to_bob (Contains-permutation _ _ to_bob split m)) [
          | inl same ↦ not_to_bob a ta same
          | inr later ↦ not_to_bob b tb (in_one b to_bob later)
        ]
        | inr r ↦ let at : r.0 < length (rest ++ []) = r.1 in omega (arith, at, two_long, whole, length-append rest [])
      ]

pub no_triple_twice : NoTripleServesTwice
no_triple_twice extra typing = shared_out extra typing
