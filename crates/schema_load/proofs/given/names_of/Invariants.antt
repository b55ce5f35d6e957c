use Rattle.indexmap.specs.IndexMap.{get}
use Rattle.schema_load.specs.Given.{AreLast, declared_label, named_label, same_label}
use Rattle.schema_load.proofs.given.names_of.Given as goal

abbrev pub invariant-loop-place : goal.invariant-loop-place
invariant-loop-place l = AreLast declared_label l.parts l.place (get same_label l.declared) × AreLast named_label l.parts l.place (get same_label l.named)
