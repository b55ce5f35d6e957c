-- Where each Shape of a schema is used, and by which pairs a pair is needed (own).
use Rattle.std.specs.Prelude.{ℕ, Bool, List, [], ◌∷◌, ◌++◌, ◌≡◌, ◌≢◌, ◌<◌, ◌↔◌, Contains, Some, filter, length, map, nat_eq, not, slice_get}
use Rattle.rdf_terms.specs.declared.terms.Term.{Term}
use Rattle.rdf_terms.specs.declared.terms.TermId.{TermId}
use Rattle.rdf_terms.specs.declared.terms.Triple.{Triple}
use Rattle.schema_tree.specs.declared.schema.Occurrence.{Occurrence}
use Rattle.schema_tree.specs.declared.schema.Pair.{Pair}
use Rattle.schema_tree.specs.declared.schema.Schema.{Schema}
use Rattle.schema_tree.specs.declared.schema.Shape.{Shape}
use Rattle.schema_tree.specs.declared.schema.ShapeId.{ShapeId}
use Rattle.schema_tree.specs.Edges.{StandsInValue}
use Rattle.schema_tree.specs.Entries.{pair_of, shape_at}
use Rattle.schema_tree.specs.Matches.{near_end}
use Rattle.schema_tree.specs.Needs.{Needs}
use Rattle.demand.specs.declared.links.Link.{Link}
use Rattle.demand.specs.Needed.{arcs_by}
use Rattle.typing_session.specs.declared.uses.Use.{Use}

-- the Shape stands in the value of the occurrence of a Shape
pub record IsUse (s : Schema) (u : Use) : Type 0 where
  pub in_shape : Shape
  pub is : shape_at s u.shape ≡ Some in_shape
  pub of : Contains in_shape.occs u.occ
  pub sign : Bool
  pub stands : StandsInValue s u.value u.occ.value sign

-- the uses of all Shapes
abbrev pub AreUses : Schema → List Use → Type 0
AreUses s found = (u : Use) → Contains found u ↔ IsUse s u

-- those by Shapes of numbers below this
abbrev pub AreUsesBelow : Schema → ℕ → List Use → Type 0
AreUsesBelow s k found = (u : Use) → Contains found u ↔ ((u.shape.0 < k) × IsUse s u)

-- the use of the Shape by an occurrence of another
abbrev pub use_of : ShapeId → Occurrence → ShapeId → Use
use_of i o j = record { value = j; shape = i; occ = o }

-- the uses by a link of the Shape
abbrev pub uses_of : ShapeId → Link → List Use
uses_of i l = map (use_of i l.occ) l.shapes

-- the values are below this number
abbrev pub AreWithin : ℕ → List Use → Type 0
AreWithin count found = (u : Use) → Contains found u → u.value.0 < count

-- the lists are empty
abbrev pub AreEmptyLists : List (List Use) → Type 0
AreEmptyLists lists = (j : ℕ) → j < length lists → slice_get lists j ≡ Some []

-- the use goes last in the list of its value
pub record FilesUse (old : List (List Use)) (u : Use) (new : List (List Use)) : Type 0 where
  pub own : (us : List Use) → slice_get old u.value.0 ≡ Some us → slice_get new u.value.0 ≡ Some (us ++ u ∷ [])
  pub others : (j : ℕ) → j ≢ u.value.0 → slice_get new j ≡ slice_get old j

-- those of the uses whose value has the number
abbrev pub with_value : ℕ → List Use → List Use
with_value j found = filter (λ u. nat_eq u.value.0 j) found

-- each list has those of the uses whose value has its number
abbrev pub AreFiled : List Use → List (List Use) → Type 0
AreFiled found lists = (j : ℕ) → j < length lists → slice_get lists j ≡ Some (with_value j found)

-- for each Shape the uses in whose value it stands
pub record AreUsesByValue (s : Schema) (lists : List (List Use)) : Type 0 where
  pub found : List Use
  pub uses : AreUses s found
  pub filed : AreFiled found lists
  pub count : length lists ≡ length s.shapes

-- the triples at whose other end the node is, for an occurrence
abbrev pub arcs_to : List Term → List Triple → TermId → Occurrence → List Triple
arcs_to terms g n o = arcs_by terms g n o.predicate (not o.inverse)

-- the end of the triple where the occurrence stands, with the Shape
abbrev pub user_at : Use → Triple → Pair
user_at u t = pair_of (near_end u.occ.inverse t) u.shape

-- the pairs that need the node with the value of the use, by the use
abbrev pub users_by : List Term → List Triple → TermId → Use → List Pair
users_by terms g n u = map (user_at u) (arcs_to terms g n u.occ)

-- the pairs that need the pair
abbrev pub AreUsers : Schema → List Triple → Pair → List Pair → Type 0
AreUsers s g q found = (p : Pair) → Contains found p ↔ Needs s g p q
