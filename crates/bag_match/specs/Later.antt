-- Which states of a pair are dead (own).
use Rattle.std.specs.Prelude.{ℕ, Bool, false, ⊤, List, ◌&&◌, ◌≡◌, ◌≤◌, ◌^◌, length, Option, Some, None, slice_index, if◌then◌else◌}
use Rattle.rdf_terms.specs.declared.terms.TermId.{TermId}
use Rattle.rdf_terms.specs.declared.terms.Term.{Term}
use Rattle.rdf_terms.specs.declared.terms.Triple.{Triple}
use Rattle.rdf_terms.specs.Graphs.{is_loop}
use Rattle.schema_tree.specs.declared.schema.Occurrence.{Occurrence}
use Rattle.schema_tree.specs.declared.schema.Shape.{Shape}
use Rattle.schema_tree.specs.declared.verdicts.State.{State}
use Rattle.schema_tree.specs.Relevant.{is_relevant, relevant_in_order}
use Rattle.schema_tree.specs.States.{IsDead}

-- the triple is relevant; among the arcs in, where a self-loop counts as an arc out, it is none
abbrev pub is_kept : List Occurrence → TermId → Bool → Triple → Bool
is_kept occs n inward t = if inward && is_loop t then false else is_relevant occs n t

-- the state has one count for each occurrence of the Shape, if there is one, and none above 2,147,483,648
abbrev pub IsStateOf : Option Shape → State → Type 0
IsStateOf None x = ⊤
IsStateOf (Some sh) x = (length x.counts ≡ length sh.occs) × ((i : ℕ) → slice_index x.counts i ≤ 2 ^ 31)

-- the state of the node with the Shape, if there is one, is dead
abbrev pub IsDeadOf : List Term → List Triple → TermId → Option Shape → State → Type 0
IsDeadOf terms g n None x = ⊥
IsDeadOf terms g n (Some sh) x = IsDead sh n (relevant_in_order terms g sh n) x
