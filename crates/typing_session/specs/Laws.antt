-- Laws of edits: a pair that reaches no pair at an end of a triple has the same verdict with the triple and without (own).
use Rattle.std.specs.Prelude.{ℕ, List, ◌∷◌, ◌↔◌, Contains}
use Rattle.std.specs.List.Sorted.{IsPermutation}
use Rattle.lists.specs.Distinct.{AreDistinct}
use Rattle.locality_laws.specs.Local.{IsVerdict}
use Rattle.rdf_terms.specs.declared.terms.Term.{Term}
use Rattle.rdf_terms.specs.declared.terms.Triple.{Triple}
use Rattle.schema_tree.specs.declared.schema.Pair.{Pair}
use Rattle.schema_tree.specs.declared.schema.Schema.{Schema}
use Rattle.schema_tree.specs.declared.verdicts.Verdict.{Verdict}
use Rattle.schema_tree.specs.Loaded.{IsLoaded}
use Rattle.schema_tree.specs.Needs.{HoldNeeds}
use Rattle.typing_session.specs.Edits.{IsAtEnd, ReachesEnd}

-- the graph is the other one and the triple, in some order
abbrev pub IsEdit : List Triple → Triple → List Triple → Type 0
IsEdit more t fewer = IsPermutation more (t ∷ fewer)

-- a pair reaches one at an end of the triple with the triple exactly where it does without
abbrev pub ReachIsSame : Type 0
ReachIsSame =
    (s : Schema) (more fewer : List Triple) (t : Triple) → IsEdit more t fewer → (p : Pair) → ReachesEnd s more t p ↔ ReachesEnd s fewer t p

-- pairs none of which is at an end of the triple, and which have all that they need, have the same verdicts with the triple
-- and without
abbrev pub VerdictsStay : Type 0
VerdictsStay =
    (s : Schema) (terms : List Term) (more fewer : List Triple) (t : Triple) (f : List ℕ) (budget : ℕ) → IsLoaded s → AreDistinct more → AreDistinct fewer →
    IsEdit more t fewer → (pairs : List Pair) → AreDistinct pairs → ((q : Pair) → Contains pairs q → ¬ IsAtEnd t q) → (p : Pair) → Contains pairs p → (v : Verdict) →
    (HoldNeeds s more pairs → IsVerdict s terms more f budget p v → IsVerdict s terms fewer f budget p v)
    × (HoldNeeds s fewer pairs → IsVerdict s terms fewer f budget p v → IsVerdict s terms more f budget p v)

-- a pair that reaches no pair at an end of the triple has the same verdict with the triple and without
abbrev pub VerdictIsSame : Type 0
VerdictIsSame =
    (s : Schema) (terms : List Term) (more fewer : List Triple) (t : Triple) (f : List ℕ) (budget : ℕ) → IsLoaded s → AreDistinct more → AreDistinct fewer →
    IsEdit more t fewer → (p : Pair) → ¬ ReachesEnd s more t p → (v : Verdict) →
    IsVerdict s terms more f budget p v ↔ IsVerdict s terms fewer f budget p v
