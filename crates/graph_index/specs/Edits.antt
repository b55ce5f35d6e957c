-- Rows of nodes whose triples were edited since they were sealed.
use Rattle.std.specs.Prelude.{ℕ, List, ◌≡◌, ◌≢◌, ◌≤◌, ◌<◌, ◌++◌, Option, IsSomeAnd, Some, None, vec_capacity, vec_len, length, slice_index_or, filter, flat_map, not, is_some, cond, All}
use Rattle.std.specs.Global.{Vec}
use Rattle.std.specs.List.{IsDistinct}
use Rattle.std.specs.Map.{keys_of, lookup}
use Rattle.rdf_terms.specs.declared.terms.Term.{Term}
use Rattle.rdf_terms.specs.declared.terms.TermId.{TermId}
use Rattle.rdf_terms.specs.declared.terms.Triple.{Triple}
use Rattle.rdf_terms.specs.Graphs.{is_loop, same_id}
use Rattle.lists.specs.Sorting.{sorted_by}
use Rattle.graph_index.specs.Places.{AreApart, IsPlaced}
use Rattle.graph_index.specs.Rows.{IsByPredicate, arcs_at, by_texts, node_at}
use Rattle.graph_index.specs.declared.ends.End.{End}
use Rattle.graph_index.specs.declared.ends.End.TheVariants.{Subject, Object}

-- triples by the nodes at one end: those that are there now, those that were sealed, the rows of nodes' own, and for how many
-- more nodes there is room
pub record Incidence : Type 0 where
  pub end : End
  pub rows : List Triple
  pub sealed : List Triple
  pub edited : List (TermId × Vec Triple)
  pub room : ℕ

-- the sealed rows of the nodes that have no rows of their own, and all rows of their own
abbrev pub rows_of : End → List Triple → List (TermId × Vec Triple) → List Triple
rows_of end sealed edited = filter (λ t. not (is_some (lookup (same_id (node_at end t)) edited))) sealed ++ flat_map (λ e. e.1.items) edited

-- sealed triples with rows of nodes' own, and with room for so many nodes more
abbrev pub incidence_of : End → List Triple → List (TermId × Vec Triple) → ℕ → Incidence
incidence_of end sealed edited room = record { end = end; rows = rows_of end sealed edited; sealed = sealed; edited = edited; room = room }

-- there is room for one row more of a node: in its own rows where it has them, and else in a copy of those that it has
abbrev pub IsReady : TermId → Option (Vec Triple) → Incidence → Type 0
IsReady n None arcs = IsSomeAnd (lookup (same_id n) arcs.edited) (λ own. vec_len own < vec_capacity own)
IsReady n (Some own) arcs = (own.items ≡ arcs_at arcs.end arcs.rows n) × (vec_len own < vec_capacity own) × (0 < arcs.room)

-- the rows of one node, in the order of the texts of a table
abbrev pub AreInTextsOf : List Term → End → TermId → List Triple → Type 0
AreInTextsOf terms end n rows = (ts : List Triple) × (rows ≡ sorted_by (by_texts end terms) (arcs_at end ts n))

-- of some table
abbrev pub AreInTexts : End → TermId → List Triple → Type 0
AreInTexts end n rows = (terms : List Term) × (ts : List Triple) × (rows ≡ sorted_by (by_texts end terms) (arcs_at end ts n))

-- each node has rows of its own once, and in order
pub record AreEdits (end : End) (edited : List (TermId × Vec Triple)) : Type 0 where
  pub once : IsDistinct same_id (keys_of edited)
  pub in_texts : (n : TermId) (rows : Vec Triple) → lookup (same_id n) edited ≡ Some rows → AreInTexts end n rows.items

-- the rows of each predicate stand together
abbrev pub IsGrouped : List Triple → Type 0
IsGrouped rows = (i j k : ℕ) (d : Triple) → i ≤ j → j ≤ k → k < length rows → (slice_index_or rows i d).p.0 ≡ (slice_index_or rows k d).p.0
    → (slice_index_or rows j d).p.0 ≡ (slice_index_or rows k d).p.0

-- so many rows at the front are those of the first one's predicate
pub record IsFirstBlock (rows : List Triple) (count : ℕ) : Type 0 where
  pub some : 0 < count
  pub within : count ≤ length rows
  pub same : (k : ℕ) (d : Triple) → k < count → (slice_index_or rows k d).p.0 ≡ (slice_index_or rows 0 d).p.0
  pub others : (k : ℕ) (d : Triple) → count ≤ k → k < length rows → (slice_index_or rows k d).p.0 ≢ (slice_index_or rows 0 d).p.0

-- only how much room there is may differ
pub record HasSameRows (old new : Incidence) : Type 0 where
  pub end : new.end ≡ old.end
  pub rows : new.rows ≡ old.rows
  pub sealed : new.sealed ≡ old.sealed

-- the node has those rows, and each other node those that it had
abbrev pub GivesRows : End → TermId → List Triple → List Triple → List Triple → Type 0
GivesRows end n own old new = (m : TermId) → arcs_at end new m ≡ cond (same_id n m) own (arcs_at end old m)

-- the rows of a node were put in place of those that it had
pub record PutsRows (n : TermId) (own : List Triple) (old new : Incidence) : Type 0 where
  pub end : new.end ≡ old.end
  pub sealed : new.sealed ≡ old.sealed
  pub rows : GivesRows old.end n own old.rows new.rows

-- triples by their subjects, by their objects, and of the latter those that are no self-loops, with places for what was sealed
pub record AreKept (places : List ℕ) (outward inward into_others : Incidence) : Type 0 where
  pub apart : AreApart places
  pub outward_placed : All (IsPlaced places) outward.sealed
  pub inward_placed : All (IsPlaced places) inward.sealed
  pub outward_by_predicate : (n : TermId) → IsByPredicate places (arcs_at Subject outward.sealed n)
  pub inward_by_predicate : (n : TermId) → IsByPredicate places (arcs_at Object inward.sealed n)
  pub outward_end : outward.end ≡ Subject
  pub inward_end : inward.end ≡ Object
  pub others_end : into_others.end ≡ Object
  pub others : (n : TermId) → arcs_at Object into_others.rows n ≡ filter (λ t. not (is_loop t)) (arcs_at Object inward.rows n)
