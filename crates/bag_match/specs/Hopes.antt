-- How often occurrences stand among the places of later triples, and which counts these can still bring to a match (own).
use Rattle.std.specs.Prelude.{ℕ, List, [], ◌∷◌, ◌≡◌, ◌+◌, Contains, Option, Some, None, length, slice_index}
use Rattle.tally.specs.Plan.{Plan}
use Rattle.tally.specs.Span.{HasSpan, span}
use Rattle.schema_tree.specs.declared.verdicts.Place.{Place}
use Rattle.schema_tree.specs.Places.{times}
use Rattle.bag_match.specs.Counts.{ArePlacesOf}

-- how many places of the lists are the occurrence i
abbrev pub offers : List (List Place) → ℕ → ℕ
offers [] i = 0
offers (places ∷ lists) i = times places i + offers lists i

-- each list has places of so many occurrences
abbrev pub ArePlacesOfEach : ℕ → List (List Place) → Type 0
ArePlacesOfEach occurrences lists = (places : List Place) → Contains lists places → ArePlacesOf occurrences places

-- so many numbers, each that of its occurrence
abbrev pub AreOffers : ℕ → List (List Place) → List ℕ → Type 0
AreOffers occurrences lists numbers = (length numbers ≡ occurrences) × ((i : ℕ) → slice_index numbers i ≡ offers lists i)

-- 1 is not in the interval of the expression, low being the counts, and high the counts with the numbers beside them added
abbrev pub IsHopeless : Option Plan → List ℕ → List ℕ → Type 0
IsHopeless None counts more = ⊥
IsHopeless (Some c) counts more = ¬ HasSpan (span c (slice_index counts) (λ i. slice_index counts i + slice_index more i)) 1
