-- States of a match: how far it has come and with which counts, which of them can lead nowhere, and which lists of them
-- show that there is no match (own).
use Rattle.std.specs.Prelude.{ℕ, suc, List, [], ◌∷◌, ◌+◌, ◌≡◌, ◌≤◌, ◌<◌, ◌⊎◌, length, map, slice_get, slice_index, slice_set, drop, Option, Some, None, Contains, if◌then◌else◌}
use Rattle.rdf_terms.specs.declared.terms.TermId.{TermId}
use Rattle.rdf_terms.specs.declared.terms.Triple.{Triple}
use Rattle.tally.specs.Plan.{Plan}
use Rattle.tally.specs.Span.{span, HasSpan}
use Rattle.schema_tree.specs.declared.schema.Shape.{Shape}
use Rattle.schema_tree.specs.declared.schema.ExprId.{ExprId}
use Rattle.schema_tree.specs.declared.schema.Occurrence.{Occurrence}
use Rattle.schema_tree.specs.declared.verdicts.Place.{Place}
use Rattle.schema_tree.specs.declared.verdicts.Place.TheVariants.{At, Rest}
use Rattle.schema_tree.specs.declared.verdicts.State.{State}
use Rattle.schema_tree.specs.Matches.{fits}
use Rattle.schema_tree.specs.Places.{IsAllowed}
use Rattle.schema_tree.specs.Rising.{IsLess}

-- a count of 0 for each occurrence
abbrev pub no_counts : List Occurrence → List ℕ
no_counts occs = map (λ o. 0) occs

-- the opening state: no triple has a place
abbrev pub opening : Shape → State
opening sh = record { done = 0; counts = no_counts sh.occs }

-- the state after one more triple has taken its place
abbrev pub after : Place → State → State
after Rest x = record { done = suc x.done; counts = x.counts }
after (At i) x = record { done = suc x.done; counts = slice_set x.counts i (suc (slice_index x.counts i)) }

-- by the number of triples that have their places, and then the counts
abbrev pub IsStateBefore : State → State → Type 0
IsStateBefore a b = (a.done < b.done) ⊎ ((a.done ≡ b.done) × IsLess a.counts b.counts)

-- how many of the triples the occurrence fits
abbrev pub count_fits : Occurrence → TermId → List Triple → ℕ
count_fits o n [] = 0
count_fits o n (t ∷ ts) = if fits o n t then suc (count_fits o n ts) else count_fits o n ts

-- the same of an occurrence that need not be there
abbrev pub fitting : TermId → List Triple → Option Occurrence → ℕ
fitting n ts None = 0
fitting n ts (Some o) = count_fits o n ts

-- 1 is not in the interval of the expression, low being the counts, and high the counts with the later triples that fit
abbrev pub IsDeadBody : Shape → TermId → List Triple → (ℕ → ℕ) → Option Plan → Type 0
IsDeadBody sh n later counts None = ⊥
IsDeadBody sh n later counts (Some c) =
    ¬ HasSpan (span c counts (λ i. counts i + fitting n later (slice_get sh.occs i))) 1

-- the state is dead; ts are the relevant triples in order
abbrev pub IsDead : Shape → TermId → List Triple → State → Type 0
IsDead sh n ts x = IsDeadBody sh n (drop x.done ts) (slice_index x.counts) sh.body

-- the state is listed or dead
abbrev pub IsCovered : Shape → TermId → List Triple → List State → State → Type 0
IsCovered sh n ts states x = Contains states x ⊎ IsDead sh n ts x

-- the list is closed: each state has a count for each occurrence and at most all triples done; a living one has triples
-- left, and each place that is allowed for the next leads to a state that is listed or dead
pub record AreClosed (hold fail : TermId → Option ExprId → Type 0) (sh : Shape) (n : TermId) (ts : List Triple) (states : List State) : Type 0 where
  pub shaped : (x : State) → Contains states x → (length x.counts ≡ length sh.occs) × (x.done ≤ length ts)
  pub unfinished : (x : State) → Contains states x → ¬ IsDead sh n ts x → x.done < length ts
  pub steps : (x : State) → Contains states x → ¬ IsDead sh n ts x → (t : Triple) → slice_get ts x.done ≡ Some t →
      (p : Place) → IsAllowed hold fail sh n t p → IsCovered sh n ts states (after p x)
