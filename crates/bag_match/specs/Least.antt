-- The least places of a match (own: the record of a pair that matches).
use Rattle.std.specs.Prelude.{ℕ, ⊤, List, [], ◌∷◌, ◌≡◌, ◌<◌, ◌+◌, ◌⊎◌, ◌↔◌, ◌++◌, Contains, Option, Some, length, slice_get, slice_index, drop}
use Rattle.rdf_terms.specs.declared.terms.TermId.{TermId}
use Rattle.rdf_terms.specs.declared.terms.Triple.{Triple}
use Rattle.schema_tree.specs.declared.schema.ExprId.{ExprId}
use Rattle.schema_tree.specs.declared.schema.Shape.{Shape}
use Rattle.schema_tree.specs.declared.verdicts.Place.{Place}
use Rattle.schema_tree.specs.declared.verdicts.Place.TheVariants.{At, Rest}
use Rattle.schema_tree.specs.declared.verdicts.State.{State}
use Rattle.schema_tree.specs.Places.{AreAllowed, HaveCounts, IsAllowed, times}
use Rattle.schema_tree.specs.Rising.{AreRising}

-- places by their numbers, the remainder last
abbrev pub IsPlaceBefore : Place → Place → Type 0
IsPlaceBefore (At i) (At j) = i < j
IsPlaceBefore (At i) Rest = ⊤
IsPlaceBefore Rest q = ⊥

-- the first list is not behind the second, compared at the first place where they differ
abbrev pub IsNotBehind : List Place → List Place → Type 0
IsNotBehind [] qs = ⊤
IsNotBehind (p ∷ ps) [] = ⊥
IsNotBehind (p ∷ ps) (q ∷ qs) = IsPlaceBefore p q ⊎ ((p ≡ q) × IsNotBehind ps qs)

-- a list of one place
abbrev pub sole : Place → List Place
sole p = p ∷ []

module _ (hold fail : TermId → Option ExprId → Type 0) (sh : Shape) (n : TermId) where
  -- the places are those that are allowed for the triple, in their order
  pub record ArePlacesFor (t : Triple) (ps : List Place) : Type 0 where
    pub rising : AreRising IsPlaceBefore ps
    pub same : (p : Place) → Contains ps p ↔ IsAllowed hold fail sh n t p

  -- the lists are the places that are allowed for each of the first so many triples, in their order
  pub record AreOffered (ts : List Triple) (count : ℕ) (lists : List (List Place)) : Type 0 where
    pub count_is : length lists ≡ count
    pub each : (j : ℕ) (t : Triple) (ps : List Place) → slice_get ts j ≡ Some t → slice_get lists j ≡ Some ps → ArePlacesFor t ps

  -- the place is put behind the others where it is allowed
  abbrev pub PushesAllowed : Triple → Place → List Place → List Place → Type 0
  PushesAllowed t p old new =
      (IsAllowed hold fail sh n t p × (new ≡ old ++ p ∷ [])) ⊎ ((¬ IsAllowed hold fail sh n t p) × (new ≡ old))

  -- from the state, the places for the triples that are left are allowed and lead to counts that match
  abbrev pub Finishes : List Triple → State → List Place → Type 0
  Finishes ts x ps = AreAllowed hold fail sh n (drop x.done ts) ps × HaveCounts sh.body (λ i. slice_index x.counts i + times ps i)

  -- the places are the least that finish from the state
  abbrev pub FinishesLeast : List Triple → State → List Place → Type 0
  FinishesLeast ts x ps = Finishes ts x ps × ((qs : List Place) → Finishes ts x qs → IsNotBehind ps qs)

  -- one allowed place for each triple, with matching counts, and no such list comes before them
  pub record AreLeast (ts : List Triple) (ps : List Place) : Type 0 where
    pub allowed : AreAllowed hold fail sh n ts ps
    pub spelled : HaveCounts sh.body (times ps)
    pub least : (qs : List Place) → AreAllowed hold fail sh n ts qs → HaveCounts sh.body (times qs) → IsNotBehind ps qs
