-- What the functions that make a schema of parts promise one another.
use Rattle.std.specs.Prelude.{⊤, ℕ, true, ◌+◌, ◌<◌, ◌≡◌, ◌⊎◌, List, [], ◌∷◌, ◌++◌, Option, length, map, get_or, slice_get, Some, None, Contains}
use Rattle.rdf_terms.specs.declared.terms.Term.{Term}
use Rattle.rdf_terms.specs.Tables.{max_terms}
use Rattle.lists.specs.Additions.{AddsAll}
use Rattle.schema_documents.specs.declared.label.Label.{Label}
use Rattle.schema_tree.specs.declared.schema.ExprId.{ExprId}
use Rattle.schema_load.specs.declared.error.LoadError.{LoadError}
use Rattle.schema_load.specs.declared.error.LoadError.TheVariants.{Full, Memory}
use Rattle.schema_load.specs.declared.part.Part.{Part}
use Rattle.schema_load.specs.declared.part.Part.TheVariants.{Declares, Ref, Start}
use Rattle.schema_load.specs.Graph.{Resolves}
use Rattle.schema_load.specs.Parts.{IsAt, declarations, is_entry, predicates_of}
use Rattle.schema_load.specs.Stands.{shape_number}

-- a table of these terms would become too long by the additions
abbrev pub IsOver : List Term → List Term → Type 0
IsOver terms added = (full : List Term) × AddsAll terms added full × (max_terms < length full)

-- additions fail for want of memory, or since they are too many for the table
abbrev pub IsPutError : List Term → List Term → LoadError → Type 0
IsPutError terms added e = (e ≡ Memory) ⊎ ((e ≡ Full) × IsOver terms added)

-- the table has each of the terms
abbrev pub HasEach : List Term → List Term → Type 0
HasEach some terms = (t : Term) → Contains some t → Contains terms t

-- the table has the predicates of the parts
abbrev pub HasPredicates : List Part → List Term → Type 0
HasPredicates parts terms = HasEach (predicates_of parts) terms

-- the number of an entry is its place in the order
abbrev pub AreEntryNumbers : List ℕ → List ℕ → Type 0
AreEntryNumbers entries numbers = (i p : ℕ) → slice_get entries i ≡ Some p → get_or numbers p 0 ≡ i

-- a reference has the number of the expression to which it leads
abbrev pub AreReferred : List Part → List ℕ → Type 0
AreReferred parts numbers = (p : ℕ) (l : Label) → IsAt parts p (Ref l) → (q : ℕ) × Resolves parts p q × (get_or numbers p 0 ≡ get_or numbers q 0)

-- entries keep their numbers
abbrev pub KeepsEntries : List Part → List ℕ → List ℕ → Type 0
KeepsEntries parts before after = (p : ℕ) (x : Part) → IsAt parts p x → is_entry x ≡ true → get_or after p 0 ≡ get_or before p 0

-- the number of the expression at a place
abbrev pub number_in : List ℕ → ℕ → ExprId
number_in numbers p = record { 0 = get_or numbers p 0 }

-- the number that the part at a place has, where its target is at q
abbrev pub number_at : Part → List ℕ → ℕ → ℕ → ℕ
number_at (Ref l) numbers p q = get_or numbers q 0
number_at _ numbers p q = get_or numbers p 0

-- the target of a reference is inside
abbrev pub IsNumberTarget : Part → ℕ → ℕ → Type 0
IsNumberTarget (Ref l) n q = q < n
IsNumberTarget _ n q = ⊤

-- an entry stands at each of the places
abbrev pub AreEntries : List Part → List ℕ → Type 0
AreEntries parts entries = (i p : ℕ) → slice_get entries i ≡ Some p → (x : Part) × IsAt parts p x × (is_entry x ≡ true)

-- ---- entries

-- the number at each place is that of the Shapes before it
pub record AreShapeNumbers (parts : List Part) (numbers : List ℕ) : Type 0 where
  pub size : length numbers ≡ length parts
  pub each : (p : ℕ) → p < length parts → get_or numbers p 0 ≡ shape_number parts p

-- ---- labels and start

-- the label of a head at p with the number of its expression
abbrev pub label_in : Part → ℕ → (ℕ → ExprId) → List (Label × ExprId)
label_in (Declares l) p number = (l, number (p + 1)) ∷ []
label_in _ p number = []

-- the label of the part at p goes last, if it declares one
abbrev pub AddsLabel : List Part → (ℕ → ExprId) → ℕ → List (Label × ExprId) → List (Label × ExprId) → Type 0
AddsLabel parts number p old new = (x : Part) → IsAt parts p x → new ≡ old ++ label_in x p number

-- the labels in reading order with the numbers of their expressions
abbrev pub labels_in : List Part → (ℕ → ExprId) → List (Label × ExprId)
labels_in parts number = map (λ d. (d.0, number d.1)) (declarations 0 parts)

-- the start is the expression behind the head at place 0, if that is the head of a start
pub record IsStartIn (parts : List Part) (number : ℕ → ExprId) (start : Option ExprId) : Type 0 where
  pub there : IsAt parts 0 Start → start ≡ Some (number 1)
  pub absent : (¬ IsAt parts 0 Start) → start ≡ None
