use Rattle.std.proofs.Common.{take}
use Rattle.std.specs.List.{AllZip}
use Rattle.schema_load.specs.Stands.{IsTerm}
use Rattle.schema_load.proofs.shapes.find_iris.Given as goal

abbrev pub invariant-loop-iri : goal.invariant-loop-iri
invariant-loop-iri l = AllZip (IsTerm l.terms) (take l.iri-index l.iris) l.ids.items
