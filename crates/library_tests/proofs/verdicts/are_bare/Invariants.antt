use Rattle.std.proofs.Common.{◌≡◌, [], Contains, None, take}
use Rattle.schema_tree.specs.declared.schema.Shape.{Shape}
use Rattle.library_tests.proofs.verdicts.are_bare.Given as goal

abbrev pub invariant-loop-shape : goal.invariant-loop-shape
invariant-loop-shape l = (sh : Shape) → Contains (take l.shape-index l.shapes) sh → (sh.occs ≡ []) × (sh.body ≡ None)
