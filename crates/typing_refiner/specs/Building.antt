-- How what a refinement reads is put together (own).
use Rattle.std.specs.Prelude.{ℕ, Bool, true, false, List, [], ◌∷◌, ◌-◌, ◌^◌, ◌≡◌, ◌<◌, ◌⊎◌, ◌↔◌, Contains, Some, slice_get, min, nat_le}
use Rattle.std.specs.List.{flat_map}
use Rattle.rdf_terms.specs.declared.terms.Triple.{Triple}
use Rattle.schema_tree.specs.declared.schema.Pair.{Pair}
use Rattle.schema_tree.specs.declared.schema.Schema.{Schema}
use Rattle.schema_tree.specs.Needs.{Needs}
use Rattle.rdf_terms.specs.declared.terms.Term.{Term}
use Rattle.schema_tree.specs.Width.{HasWidth}
use Rattle.typing_refiner.specs.declared.building.WidePair.{WidePair}
use Rattle.typing_refiner.specs.Ready.{IsAmong}

-- the function gives each pair its Width
abbrev pub AreWidths : Schema → List Term → List Triple → (Pair → ℕ) → Type 0
AreWidths s terms g width = (p : Pair) → HasWidth s terms g p (width p)

-- the Width as it is told, which is at most 18,446,744,073,709,551,615
abbrev pub told_width : (Pair → ℕ) → Pair → ℕ
told_width width p = min (width p) (2 ^ 64 - 1)

-- whether the Width of the pair is within the budget
abbrev pub is_within : (Pair → ℕ) → ℕ → Pair → Bool
is_within width budget p = nat_le (told_width width p) budget

abbrev pub wide_by : Bool → Pair → ℕ → List WidePair
wide_by true p w = []
wide_by false p w = record { pair = p; width = w } ∷ []

-- the pair with its Width, where this is above the budget
abbrev pub wide_one : Pair → ℕ → ℕ → List WidePair
wide_one p w budget = wide_by (nat_le w budget) p w

-- the pairs whose Width is above the budget, in order
abbrev pub wide_of : (Pair → ℕ) → ℕ → List Pair → List WidePair
wide_of width budget pairs = flat_map (λ p. wide_one p (told_width width p) budget) pairs

-- the list of a number has another number
abbrev pub HasAt : List (List ℕ) → ℕ → ℕ → Type 0
HasAt lists i j = IsAmong (slice_get lists i) j

-- no list has a number
abbrev pub AreEmpty : List (List ℕ) → Type 0
AreEmpty lists = (i j : ℕ) → ¬ HasAt lists i j

-- one number is added to one of the lists
abbrev pub IsAddedAt : List (List ℕ) → ℕ → ℕ → List (List ℕ) → Type 0
IsAddedAt old at number new = (i j : ℕ) → HasAt new i j ↔ (HasAt old i j ⊎ ((i ≡ at) × (j ≡ number)))

-- the pair of the number is among these
abbrev pub IsPlacedIn : List Pair → List Pair → ℕ → Type 0
IsPlacedIn pairs found i = (q : Pair) × (slice_get pairs i ≡ Some q) × Contains found q

-- one number is added to the lists of these pairs
abbrev pub AreAddedAt : List Pair → List (List ℕ) → List Pair → ℕ → List (List ℕ) → Type 0
AreAddedAt pairs old found number new = (i j : ℕ) → HasAt new i j ↔ (HasAt old i j ⊎ (IsPlacedIn pairs found i × (j ≡ number)))

-- the first pair needs the second
abbrev pub IsNeedAt : Schema → List Triple → List Pair → ℕ → ℕ → Type 0
IsNeedAt s g pairs i j = (p q : Pair) × (slice_get pairs j ≡ Some p) × (slice_get pairs i ≡ Some q) × Needs s g p q

-- each list has exactly the numbers, below one, of the pairs that need its pair
abbrev pub AreNeedsBelow : Schema → List Triple → List Pair → ℕ → List (List ℕ) → Type 0
AreNeedsBelow s g pairs at lists = (i j : ℕ) → HasAt lists i j ↔ ((j < at) × IsNeedAt s g pairs i j)

-- each list has exactly the numbers of the pairs that need its pair
abbrev pub AreNeeds : Schema → List Triple → List Pair → List (List ℕ) → Type 0
AreNeeds s g pairs lists = (i j : ℕ) → HasAt lists i j ↔ IsNeedAt s g pairs i j
