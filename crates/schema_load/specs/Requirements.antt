-- What documents have to meet so that they stand for a schema (ShEx 2.1, section 5.7, schema requirements), and the limits of
-- a schema (own). Each requirement is met where the part at no place breaks it.
use Rattle.std.specs.Prelude.{ℕ, ◌+◌, ◌<◌, ◌≤◌, ◌≡◌, ◌⊎◌, List, [], ◌∷◌, Some, length, filter}
use Rattle.rdf_terms.specs.declared.terms.Term.{Term}
use Rattle.rdf_terms.specs.Tables.{max_terms}
use Rattle.lists.specs.Additions.{AddsAll}
use Rattle.schema_documents.specs.declared.label.Label.{Label}
use Rattle.schema_load.specs.declared.part.Part.{Part}
use Rattle.schema_load.specs.declared.part.Part.TheVariants.{Declares, Ref, Shape, Triple}
use Rattle.schema_load.specs.declared.part.ShapePart.{ShapePart}
use Rattle.schema_load.specs.declared.part.TriplePart.{TriplePart}
use Rattle.schema_load.specs.declared.part.ArcPart.{ArcPart}
use Rattle.schema_load.specs.declared.part.TripleForm.TheVariants.{Arc, Each, Include, One}
use Rattle.schema_load.specs.Parts.{IsAt, IsDeclared, IsNamed, is_entry, is_shape, predicates_of}
use Rattle.schema_load.specs.Graph.{IsAsDeepAs, Reaches}

-- the shape expression of the label is declared at p, and that of the same label at another place
pub record IsDeclaredTwice (parts : List Part) (p : ℕ) (l : Label) : Type 0 where
  pub here : IsAt parts p (Declares l)
  pub other : ℕ
  pub there : IsAt parts other (Declares l)
  pub apart : (p ≡ other → ⊥)

-- the triple expression at p has the label, and so has one at another place
pub record IsNamedTwice (parts : List Part) (p : ℕ) (l : Label) : Type 0 where
  pub here : IsNamed parts l p
  pub other : ℕ
  pub there : IsNamed parts l other
  pub apart : (p ≡ other → ⊥)

-- labels of shape expressions and of triple expressions are two name spaces
abbrev pub IsTwice : List Part → ℕ → Label → Type 0
IsTwice parts p l = IsDeclaredTwice parts p l ⊎ IsNamedTwice parts p l

-- the part at p includes the triple expression of the label
abbrev pub IsInclusion : List Part → ℕ → Label → Type 0
IsInclusion parts p l = (t : TriplePart) × IsAt parts p (Triple t) × (t.form ≡ Include l)

-- the part at p refers to a label that no shape expression has, or includes one that no triple expression has
abbrev pub IsMissing : List Part → ℕ → Label → Type 0
IsMissing parts p l =
    (IsAt parts p (Ref l) × ((q : ℕ) → IsDeclared parts l q → ⊥)) ⊎ (IsInclusion parts p l × ((q : ℕ) → IsNamed parts l q → ⊥))

-- the shape expression that is declared at p refers to itself without passing through a TripleConstraint
abbrev pub IsCircle : List Part → ℕ → Label → Type 0
IsCircle parts p l = IsAt parts p (Declares l) × Reaches parts (p + 1) (p + 1)

-- the labelled triple expression at p includes itself, directly or through others
abbrev pub IsIncludeCircle : List Part → ℕ → Label → Type 0
IsIncludeCircle parts p l = IsNamed parts l p × Reaches parts p p

-- the expression at p is deeper than 256 (own)
abbrev pub IsDeep : List Part → ℕ → Type 0
IsDeep parts p = (d : ℕ) × IsAsDeepAs parts p d × (256 < d)

mutual
  -- the triple expression at p has so many occurrences of TripleConstraints, inclusions unfolded (ShEx 2.1, section 5.5)
  pub data HasOccurrences (parts : List Part) : ℕ → ℕ → Type 0 where
    of_arc : {p : ℕ} {t : TriplePart} {a : ArcPart} → IsAt parts p (Triple t) → t.form ≡ Arc a → HasOccurrences parts p 1
    of_each : {p n : ℕ} {t : TriplePart} {ps : List ℕ} → IsAt parts p (Triple t) → t.form ≡ Each ps → HaveOccurrences parts ps n → HasOccurrences parts p n
    of_one : {p n : ℕ} {t : TriplePart} {ps : List ℕ} → IsAt parts p (Triple t) → t.form ≡ One ps → HaveOccurrences parts ps n → HasOccurrences parts p n
    of_include : {p q n : ℕ} {t : TriplePart} {l : Label} → IsAt parts p (Triple t) → t.form ≡ Include l → IsNamed parts l q → HasOccurrences parts q n → HasOccurrences parts p n

  -- triple expressions together have so many occurrences of TripleConstraints, inclusions unfolded
  pub data HaveOccurrences (parts : List Part) : List ℕ → ℕ → Type 0 where
    of_none : HaveOccurrences parts [] 0
    of_more : {p m n : ℕ} {ps : List ℕ} → HasOccurrences parts p m → HaveOccurrences parts ps n → HaveOccurrences parts (p ∷ ps) (m + n)

-- the Shape at p has more than 256 occurrences (own)
pub record IsCrowded (parts : List Part) (p : ℕ) : Type 0 where
  pub head : ShapePart
  pub here : IsAt parts p (Shape head)
  pub body : ℕ
  pub has_body : head.body ≡ Some body
  pub number : ℕ
  pub occurrences : HasOccurrences parts body number
  pub many : 256 < number

-- there are more than 4,096 Shapes (own)
abbrev pub HasManyShapes : List Part → Type 0
HasManyShapes parts = 4096 < length (filter is_shape parts)

-- there are more than 4,294,967,295 entries, or the table of terms would become longer than that (own)
abbrev pub IsTooFull : List Part → List Term → Type 0
IsTooFull parts terms =
    (4294967295 < length (filter is_entry parts)) ⊎ ((new : List Term) × AddsAll terms (predicates_of parts) new × (max_terms < length new))

-- the first part that breaks a requirement is at p
pub record IsFirst (P : ℕ → Type 0) (p : ℕ) : Type 0 where
  pub here : P p
  pub none_before : (q : ℕ) → q < p → P q → ⊥

-- some label breaks a requirement at p
abbrev pub HasOne : (ℕ → Label → Type 0) → ℕ → Type 0
HasOne P p = (l : Label) × P p l

-- no part breaks a requirement
abbrev pub NoneIs : (ℕ → Type 0) → Type 0
NoneIs P = (p : ℕ) → P p → ⊥

-- documents of these parts stand for a schema
pub record MeetsRequirements (parts : List Part) : Type 0 where
  pub labels_once : NoneIs (HasOne (IsTwice parts))
  pub targets_there : NoneIs (HasOne (IsMissing parts))
  pub no_circle : NoneIs (HasOne (IsCircle parts))
  pub no_include_circle : NoneIs (HasOne (IsIncludeCircle parts))
  pub not_deep : NoneIs (IsDeep parts)
  pub not_crowded : NoneIs (IsCrowded parts)
  pub few_shapes : length (filter is_shape parts) ≤ 4096
