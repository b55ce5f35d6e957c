-- Triples that a Shape deals out: where they come from and how many there are.
use Rattle.std.proofs.Common.{ap, ◌≡◌, ◌∙◌, ◌+◌, ◌≤◌, List, [], ◌∷◌, ◌++◌, arith, length, subst, Contains, length-append}
use Rattle.std.specs.List.{AllByRecursion, flat_map}
use Rattle.std.specs.List.Sorted.{IsPermutation}
use Rattle.std.specs.Prelude.{◌||◌, slice_get}
use Rattle.std.proofs.lemmas.List.Elements.{Contains-append_left, Contains-append_right}
use Rattle.std.proofs.lemmas.List.Sorted.{IsPermutation-sym, length_permutation, Contains-permutation}
use Rattle.rdf_terms.specs.declared.terms.TermId.{TermId}
use Rattle.rdf_terms.specs.declared.terms.Triple.{Triple}
use Rattle.rdf_terms.specs.Graphs.{neigh, same_id}
use Rattle.tally.specs.Plan.{Plan}
use Rattle.schema_tree.specs.declared.schema.ExprId.{ExprId}
use Rattle.schema_tree.specs.declared.schema.Occurrence.{Occurrence}
use Rattle.schema_tree.specs.Matches.{Deals, Matches, Takes}
use Rattle.schema_tree.specs.declared.schema.Shape.{Shape}
use Rattle.schema_tree.specs.Shapes.{RestOk}
use Rattle.schema_tree.specs.Samples.{both}
use Rattle.lists.proofs.Filters.{in_filter}
use Rattle.lists.proofs.Members.{in_one, not_in_none}

-- what is matched is a triple of the graph
pub from_matched : (g : List Triple) (n : TermId) (matched rest : List Triple) (t : Triple) → Deals (neigh g n) (matched ∷ rest ∷ []) → Contains matched t → Contains g t
from_matched g n matched rest t deals held =
    (in_filter (λ u. same_id u.s n || same_id u.o n) g t
    (Contains-permutation _ _ t (IsPermutation-sym _ _ deals) (Contains-append_left matched (rest ++ []) t held))).0

-- what is left over is one of the triples dealt
pub from_remainder : (ts matched rest : List Triple) (t : Triple) → Deals ts (matched ∷ rest ∷ []) → Contains rest t → Contains ts t
from_remainder ts matched rest t deals held =
    Contains-permutation _ _ t (IsPermutation-sym _ _ deals) (Contains-append_right matched (rest ++ []) t (Contains-append_left rest [] t held))

-- matched part and remainder have as many triples as were dealt
pub counted : (ts matched rest : List Triple) → Deals ts (matched ∷ rest ∷ []) → length matched + length rest ≡ length ts
counted ts matched rest deals =
    let whole : length (matched ++ (rest ++ [])) ≡ length ts = length_permutation _ _ deals in
    omega (arith, whole, length-append matched (rest ++ []), length-append rest [])

-- an empty remainder meets all that is asked of one
pub nothing_left : (sat : TermId → ExprId → Type 0) (sh : Shape) (n : TermId) → RestOk sat sh n []
nothing_left sat sh n = record {
  unmatched = λ t o h. absurd (not_in_none t h);
  in_extra = λ t h. absurd (not_in_none t h);
  in_closed = λ e t h. absurd (not_in_none t h);
}

-- a remainder of one arc in meets all that is asked of one
pub arc_in_left : (sat : TermId → ExprId → Type 0) (sh : Shape) (n : TermId) (t : Triple) → ¬ (t.s ≡ n) → RestOk sat sh n (t ∷ [])
arc_in_left sat sh n t apart = record {
  unmatched = λ u o h m. absurd (apart (ap (λ x. x.s) (in_one t u h) ∙ m.0));
  in_extra = λ u h m. absurd (apart (ap (λ x. x.s) (in_one t u h) ∙ m.0));
  in_closed = λ e u h out. absurd (apart (ap (λ x. x.s) (in_one t u h) ∙ out));
}

module _ (sat : TermId → ExprId → Type 0) (occs : List Occurrence) (n : TermId) where
  -- an EachOf of two constraints is matched by two triples, one that each takes
  pub two_singles :
      (ts : List Triple) → Matches sat occs n both ts →
      (a b : Triple) × IsPermutation ts (a ∷ b ∷ []) × Takes sat n (slice_get occs 0) a × Takes sat n (slice_get occs 1) b
  unfolding Matches
  two_singles ts ([], dealt, h) = absurd h
  two_singles ts (x ∷ [], dealt, h) = absurd h.1
  two_singles ts (x ∷ y ∷ [], dealt, ((a, ea, ta), ((b, eb, tb), u))) =
      (a, b, subst (λ z. Deals ts ((a ∷ []) ∷ z ∷ [])) eb (subst (λ z. Deals ts (z ∷ y ∷ [])) ea dealt), ta, tb)
  two_singles ts (x ∷ y ∷ z ∷ more, dealt, h) = absurd h.1.1

  -- where each part has a triple, the parts hold as many triples as there are parts at least
  pub one_a_part :
      (c : Plan) → ((ts : List Triple) → Matches sat occs n c ts → 1 ≤ length ts) →
      (parts : List (List Triple)) → AllByRecursion (λ part. Matches sat occs n c part) parts → length parts ≤ length (flat_map (λ part. part) parts)
  one_a_part c some [] h = omega arith
  one_a_part c some (ts ∷ parts) (h, later) =
      omega (arith, some ts h, one_a_part c some parts later, length-append ts (flat_map (λ part. part) parts))
