-- The ways along triples that a schema reads (own).
use Rattle.std.specs.Prelude.{Bool, true, List, ◌≡◌, ◌==◌, ◌↔◌, Contains, Some, length, map, not}
use Rattle.demand.specs.declared.links.Link.{Link}
use Rattle.schema_tree.specs.declared.schema.Occurrence.{Occurrence}
use Rattle.schema_tree.specs.declared.schema.Schema.{Schema}
use Rattle.schema_tree.specs.declared.schema.Shape.{Shape}
use Rattle.schema_tree.specs.declared.schema.ShapeId.{ShapeId}
use Rattle.schema_tree.specs.Edges.{StandsInValue}
use Rattle.schema_tree.specs.Entries.{shape_at}
use Rattle.shard_checks.specs.declared.ways.Way.{Way}

-- an occurrence of a Shape has the predicate and the direction, and it is followed where a Shape stands in its value
pub record IsWay (s : Schema) (w : Way) : Type 0 where
  pub id : ShapeId
  pub shape : Shape
  pub is : shape_at s id ≡ Some shape
  pub occ : Occurrence
  pub of : Contains shape.occs occ
  pub predicate : w.predicate ≡ occ.predicate
  pub inverse : w.inverse ≡ occ.inverse
  pub followed : (w.followed ≡ true) ↔ ((j : ShapeId) × (sign : Bool) × StandsInValue s j occ.value sign)

-- the way of an occurrence with the Shapes that stand in its value
abbrev pub way_of : Link → Way
way_of l = record { predicate = l.occ.predicate; inverse = l.occ.inverse; followed = not (length l.shapes == 0) }

-- the ways of some
abbrev pub ways_of : List Link → List Way
ways_of links = map way_of links
