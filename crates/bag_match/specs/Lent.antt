-- Triples that are lent by their places in a neighbourhood (own).
use Rattle.std.specs.Prelude.{ℕ, List, [], ◌∷◌, ◌≡◌, ◌<◌, ◌≤◌, All, Option, Some, None, length, option_map, slice_get, slice_index_or}
use Rattle.rdf_terms.specs.declared.terms.Triple.{Triple}

-- the triple, if there is one, before the others
abbrev pub before_others : Option Triple → List Triple → List Triple
before_others None ts = ts
before_others (Some t) ts = t ∷ ts

-- the triples at the places, in their order
abbrev pub triples_at : List Triple → List ℕ → List Triple
triples_at ts [] = []
triples_at ts (i ∷ places) = before_others (slice_get ts i) (triples_at ts places)

-- each place is one of the list
abbrev pub AreInside : List Triple → List ℕ → Type 0
AreInside ts places = All (λ i. i < length ts) places

-- the number of the predicate of the triple at a place, if there is one
abbrev pub predicate_at : List Triple → ℕ → Option ℕ
predicate_at ts i = option_map (λ t. t.p.0) (slice_get ts i)

-- from one place on and before another, all triples between two of one predicate are of it
abbrev pub AreRuns : List Triple → ℕ → ℕ → Type 0
AreRuns ts from end =
    (i j k : ℕ) (d : Triple) → from ≤ i → i ≤ j → j ≤ k → k < end → (slice_index_or ts i d).p.0 ≡ (slice_index_or ts k d).p.0 →
    (slice_index_or ts j d).p.0 ≡ (slice_index_or ts k d).p.0
