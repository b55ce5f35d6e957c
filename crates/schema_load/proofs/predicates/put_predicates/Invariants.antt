use Rattle.std.proofs.Common.{◌≡◌, ◌++◌, List, take}
use Rattle.rdf_terms.specs.declared.terms.Term.{Term}
use Rattle.lists.specs.Additions.{AddsAll}
use Rattle.schema_load.specs.Parts.{predicates_of}
use Rattle.schema_load.proofs.predicates.put_predicates.Given as goal

abbrev pub invariant-loop-part : goal.invariant-loop-part
invariant-loop-part l = AddsAll l.fn.terms (predicates_of (take l.part-index l.parts)) l.terms × ((more : List Term) × (l.terms ≡ l.fn.terms ++ more))
