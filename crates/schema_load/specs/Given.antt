-- Where labels are given: the last place of each, in each of the two name spaces.
use Rattle.std.specs.Prelude.{ℕ, Bool, ◌<◌, ◌≤◌, ◌≡◌, List, Option, Some, None, cond, length}
use Rattle.indexmap.specs.IndexMap.{get}
use Rattle.schema_documents.specs.declared.label.Label.{Label}
use Rattle.schema_documents.specs.contracts.label.LabelPartialEq.TheImpl.{ghosts}
use Rattle.schema_load.specs.declared.part.Part.{Part}
use Rattle.schema_load.specs.declared.part.Part.TheVariants.{Declares, Triple}
use Rattle.schema_load.specs.declared.given.Names.{Names}
use Rattle.schema_load.specs.Parts.{IsAt}

-- whether two labels are the same
abbrev pub same_label : Label → Label → Bool
same_label = ghosts.eq

-- the label of a shape expression that a part declares, if it does
abbrev pub declared_label : Part → Option Label
declared_label (Declares l) = Some l
declared_label _ = None

-- the label of a triple expression, if the part is one that has a label
abbrev pub named_label : Part → Option Label
named_label (Triple t) = t.label
named_label _ = None

-- the place is noted for the label, if there is one, and nothing else changes
abbrev pub Notes : Option Label → ℕ → (Label → Option ℕ) → (Label → Option ℕ) → Type 0
Notes None p old new = (m : Label) → new m ≡ old m
Notes (Some l) p old new = (m : Label) → new m ≡ cond (same_label l m) (Some p) (old m)

-- among the first parts, the places are the last ones at which the labels are given
pub record AreLast (given : Part → Option Label) (parts : List Part) (i : ℕ) (last : Label → Option ℕ) : Type 0 where
  pub there : (l : Label) (q : ℕ) → last l ≡ Some q → (x : Part) × IsAt parts q x × (given x ≡ Some l) × (q < i)
  pub all : (l : Label) (p : ℕ) (x : Part) → p < i → IsAt parts p x → given x ≡ Some l → (q : ℕ) × (last l ≡ Some q) × (p ≤ q)

-- the names are those of the parts
pub record AreNames (parts : List Part) (names : Names) : Type 0 where
  pub declared : AreLast declared_label parts (length parts) (get same_label names.declared)
  pub named : AreLast named_label parts (length parts) (get same_label names.named)

-- a place is noted, and it is another one
abbrev pub IsElsewhere : Option ℕ → ℕ → Type 0
IsElsewhere None p = ⊥
IsElsewhere (Some q) p = q ≡ p → ⊥

-- another place is noted for the label, if there is one
abbrev pub IsAgain : (Label → Option ℕ) → Option Label → ℕ → Type 0
IsAgain last None p = ⊥
IsAgain last (Some l) p = IsElsewhere (last l) p

-- the label that the part at p gives is given at a later place, too
abbrev pub IsGivenAgain : Names → Part → ℕ → Type 0
IsGivenAgain names (Declares l) p = IsElsewhere (get same_label names.declared l) p
IsGivenAgain names (Triple t) p = IsAgain (get same_label names.named) t.label p
IsGivenAgain names _ p = ⊥
