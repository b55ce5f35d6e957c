-- One graph in two tables: a term has a number of its own in each (own).
use Rattle.std.specs.Prelude.{ℕ, List, ◌≡◌, ◌⊎◌, All, Contains, Some, map, slice_get}
use Rattle.graph_index.specs.Laws.{IsOfTable}
use Rattle.lists.specs.Distinct.{AreDistinct}
use Rattle.rdf_terms.specs.declared.terms.Term.{Term}
use Rattle.rdf_terms.specs.declared.terms.TermId.{TermId}
use Rattle.rdf_terms.specs.declared.terms.Triple.{Triple}
use Rattle.rdf_terms.specs.Laws.{IsTerm}
use Rattle.schema_tree.specs.declared.schema.Occurrence.{Occurrence}
use Rattle.schema_tree.specs.declared.schema.Pair.{Pair}
use Rattle.schema_tree.specs.declared.schema.Schema.{Schema}
use Rattle.schema_tree.specs.declared.schema.Shape.{Shape}
use Rattle.schema_tree.specs.declared.schema.ShapeId.{ShapeId}
use Rattle.schema_tree.specs.Entries.{shape_at}
use Rattle.schema_tree.specs.Removal.{IsRefined}
use Rattle.schema_tree.specs.Sure.{Known}

-- the predicate stands in an occurrence of some Shape, or in its extra
pub record IsPredicateOf (s : Schema) (p : TermId) : Type 0 where
  pub id : ShapeId
  pub shape : Shape
  pub is : shape_at s id ≡ Some shape
  pub stands : ((o : Occurrence) × Contains shape.occs o × (o.predicate ≡ p)) ⊎ Contains shape.extra p

-- each number is given one that has the same term in the second table, no two are given one, and the schema's predicates keep theirs
pub record IsRenumbering (s : Schema) (own terms : List Term) (m : TermId → TermId) : Type 0 where
  pub apart : (a b : TermId) → m a ≡ m b → a ≡ b
  pub term : (n : TermId) → slice_get terms (m n).0 ≡ slice_get own n.0
  pub predicates : (p : TermId) → IsPredicateOf s p → m p ≡ p

-- the triple by the numbers that are given
abbrev pub renumbered : (TermId → TermId) → Triple → Triple
renumbered m t = record { s = m t.s; p = m t.p; o = m t.o }

-- the pair
abbrev pub pair_renumbered : (TermId → TermId) → Pair → Pair
pair_renumbered m q = record { node = m q.node; shape = q.shape }

-- and what is known
abbrev pub known_renumbered : (TermId → TermId) → Known → Known
known_renumbered m known = record { yes = map (pair_renumbered m) known.yes; no = map (pair_renumbered m) known.no }

-- refinement of pairs of a graph in its table gives what is known by other numbers of the same pairs of the same graph
abbrev pub NumbersDoNotMatter : Type 0
NumbersDoNotMatter =
    (s : Schema) (own terms : List Term) (m : TermId → TermId) (g : List Triple) (f : List ℕ) (pairs : List Pair) (budget : ℕ) (known : Known) →
    IsRenumbering s own terms m → AreDistinct own → ((x : Term) → Contains own x → IsTerm x) → All (IsOfTable own) g → IsRefined s own g f pairs budget known →
    IsRefined s terms (map (renumbered m) g) f (map (pair_renumbered m) pairs) budget (known_renumbered m known)
