-- What a refinement reads, and which of its pairs it looks at (own).
use Rattle.std.specs.Prelude.{ℕ, Bool, List, [], ◌∷◌, ◌+◌, ◌⊎◌, if◌then◌else◌, ◌≡◌, ◌<◌, ◌≤◌, ◌↔◌, IsTrue, Contains, Option, Some, None, option_map, slice_get, length}
use Rattle.lists.specs.Distinct.{AreDistinct}
use Rattle.graph_index.specs.Contents.{IsSealedWith}
use Rattle.schema_tree.specs.declared.schema.Pair.{Pair}
use Rattle.schema_tree.specs.declared.verdicts.Verdict.{Verdict}
use Rattle.schema_tree.specs.declared.verdicts.Verdict.TheVariants.{Yes, Unknown}
use Rattle.schema_tree.specs.Edges.{level}
use Rattle.schema_tree.specs.Loaded.{IsLoaded}
use Rattle.schema_tree.specs.Needs.{Needs}
use Rattle.schema_tree.specs.Removal.{IsNarrow}
use Rattle.schema_tree.specs.Sure.{Known}
use Rattle.removal_laws.specs.Stages as Stages
use Rattle.removal_laws.specs.Marks as Marks
use Rattle.schema_tree.specs.Width.{IsWithinWidth}
use Rattle.std.specs.List.Sorted.{IsStrictlySortedBy}
use Rattle.demand.specs.Orders.{compare_pairs, max_pairs}
use Rattle.typing_refiner.specs.declared.ground.Ground.{Ground}

-- one of the lists has the number
abbrev pub IsAmong : Option (List ℕ) → ℕ → Type 0
IsAmong None j = ⊥
IsAmong (Some js) j = Contains js j

-- the schema is loaded, the graph is sealed with the table of its terms, the pairs are distinct, the tests tell which of
-- them are within the budget, and each has those that need it
pub record IsReady (h : Ground) : Type 0 where
  pub loaded : IsLoaded h.schema.now
  pub sealed : IsSealedWith h.terms.now h.graph.now
  pub distinct : AreDistinct h.table.now
  pub sorted : IsStrictlySortedBy (compare_pairs h.terms.now) h.table.now
  pub few : length h.table.now ≤ max_pairs
  pub tested : length h.narrow.now ≡ length h.table.now
  pub narrow : (i : ℕ) (p : Pair) (b : Bool) → slice_get h.table.now i ≡ Some p → slice_get h.narrow.now i ≡ Some b →
      IsTrue b ↔ IsWithinWidth h.schema.now h.terms.now h.graph.now.triples h.budget p
  pub needing : (i j : ℕ) (p q : Pair) → slice_get h.table.now i ≡ Some p → slice_get h.table.now j ≡ Some q →
      Needs h.schema.now h.graph.now.triples q p → IsAmong (option_map (λ v. v.items) (slice_get h.needing.now i)) j

-- the narrow pairs of a stratum
abbrev pub IsNarrowOf : Ground → ℕ → Pair → Type 0
IsNarrowOf h k p = IsNarrow h.schema.now h.terms.now h.graph.now.triples h.strata.now h.table.now h.budget k p

-- the number is that of a narrow pair of the stratum
abbrev pub IsOpen : Ground → ℕ → ℕ → Type 0
IsOpen h k i = (p : Pair) × (slice_get h.table.now i ≡ Some p) × IsNarrowOf h k p

-- the pair of the number is open and has the mark
abbrev pub Waits : Ground → ℕ → List Verdict → Verdict → ℕ → Type 0
Waits h k marks mark i = IsOpen h k i × (slice_get marks i ≡ Some mark)

-- the pair of the number needs that of the other number, is open and has the mark
abbrev pub GoesBack : Ground → ℕ → ℕ → List Verdict → Verdict → ℕ → Type 0
GoesBack h k at marks mark i =
    IsAmong (option_map (λ v. v.items) (slice_get h.needing.now at)) i × Waits h k marks mark i

abbrev pub known_of : Ground → Known → List Verdict → Known
known_of h elsewhere marks = Marks.known_by elsewhere h.table.now marks

-- how far a stratum is refined over these pairs; elsewhere is what is known of others
abbrev pub IsBefore : Ground → Known → Known → ℕ → List Verdict → Type 0
IsBefore h elsewhere lower k marks =
    Stages.IsBefore h.schema.now h.terms.now h.graph.now.triples h.strata.now h.table.now h.budget elsewhere lower k marks

abbrev pub IsRemoving : Ground → Known → Known → ℕ → List Verdict → List Pair → (ℕ → Type 0) → Type 0
IsRemoving h elsewhere lower k marks gone Todo =
    Stages.IsRemoving h.schema.now h.terms.now h.graph.now.triples h.strata.now h.table.now h.budget elsewhere lower k marks gone Todo

abbrev pub IsConfirming : Ground → Known → Known → ℕ → List Verdict → List Pair → (ℕ → Type 0) → Type 0
IsConfirming h elsewhere lower k marks gone Todo =
    Stages.IsConfirming h.schema.now h.terms.now h.graph.now.triples h.strata.now h.table.now h.budget elsewhere lower k marks gone Todo

-- how often the mark stands among the marks
abbrev pub count_of : Verdict → List Verdict → ℕ
count_of v [] = 0
count_of v (m ∷ ms) = (if Marks.same_verdict v m then 1 else 0) + count_of v ms

-- each number on the agenda is that of an open pair with the mark
abbrev pub AllWait : Ground → ℕ → List Verdict → Verdict → List ℕ → Type 0
AllWait h k marks mark agenda = (i : ℕ) → Contains agenda i → Waits h k marks mark i

-- nothing changed, or the mark stands less often and the agenda has at most so many numbers
abbrev pub IsNearer : ℕ → Verdict → List Verdict → List ℕ → List Verdict → List ℕ → Type 0
IsNearer most v marks agenda marks' agenda' =
    ((marks' ≡ marks) × (agenda' ≡ agenda)) ⊎ ((count_of v marks' + 1 ≤ count_of v marks) × (length agenda' ≤ most))

-- lower knows none of the pairs but of lower strata
abbrev pub IsLow : Ground → Known → ℕ → Type 0
IsLow h lower k = (q : Pair) → Contains lower.yes q ⊎ Contains lower.no q → Contains h.table.now q → level h.strata.now q.shape < k

-- each of the numbers with the mark Unknown comes to have Yes, and no other mark changes
abbrev pub IsRaisedBy : List ℕ → List Verdict → List Verdict → ℕ → Type 0
IsRaisedBy xs old new i =
    (Contains xs i × (slice_get old i ≡ Some Unknown) × (slice_get new i ≡ Some Yes))
    ⊎ ((¬ (Contains xs i × (slice_get old i ≡ Some Unknown))) × (slice_get new i ≡ slice_get old i))
