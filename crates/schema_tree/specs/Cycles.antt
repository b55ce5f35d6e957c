-- Cycles of edges of which one is negative (ShEx 2.1, section 5.7.4, negation requirement).
use Rattle.std.specs.Prelude.{ℕ, suc, List, [], ◌∷◌, ◌⊎◌}
use Rattle.schema_tree.specs.declared.schema.Schema.{Schema}
use Rattle.schema_tree.specs.declared.schema.ShapeId.{ShapeId}
use Rattle.schema_tree.specs.Edges.{Edge, IsNegative, Path}

-- a path from a Shape back to itself on which a negative edge is counted
abbrev pub HasNegatedCycle : Schema → Type 0
HasNegatedCycle s = (i : ShapeId) × (k : ℕ) × Path s i i (suc k)

-- each Shape has an edge to the next, and the last to the end
abbrev pub AreLinked : Schema → ShapeId → List ShapeId → ShapeId → Type 0
AreLinked s i [] end = Edge s i end
AreLinked s i (j ∷ js) end = Edge s i j × AreLinked s j js end

-- each Shape has an edge to the next, and the last to the end, and one of the edges is negative
abbrev pub AreLinkedBadly : Schema → ShapeId → List ShapeId → ShapeId → Type 0
AreLinkedBadly s i [] end = (e : Edge s i end) × IsNegative e
AreLinkedBadly s i (j ∷ js) end =
    (((e : Edge s i j) × IsNegative e) × AreLinked s j js end) ⊎ (Edge s i j × AreLinkedBadly s j js end)

-- the Shapes of a cycle that has a negative edge, from one of them round to it
abbrev pub IsNegatedCycle : Schema → List ShapeId → Type 0
IsNegatedCycle s [] = ⊥
IsNegatedCycle s (i ∷ is) = AreLinkedBadly s i is i
