use Rattle.std.proofs.Common.{take}
use Rattle.std.specs.List.{AllZip}
use Rattle.schema_load.specs.Building.{number_in}
use Rattle.schema_load.specs.Parts.{is_shape, places_where}
use Rattle.schema_load.specs.Stands.{IsShapeAt}
use Rattle.schema_load.proofs.unfolding.Unfolder.shapes.Given as goal

abbrev pub invariant-loop-place : goal.invariant-loop-place
invariant-loop-place l = AllZip (IsShapeAt l.self.terms.now l.self.parts.now (number_in l.self.numbers.now)) (places_where is_shape 0 (take l.place l.self.parts.now)) l.shapes.items
