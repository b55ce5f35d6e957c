use Rattle.std.proofs.Common.{◌≡◌, ◌++◌, List, map, take}
use Rattle.rdf_terms.specs.declared.terms.Term.{Term}
use Rattle.rdf_terms.specs.declared.terms.Term.TheVariants.{Iri}
use Rattle.lists.specs.Additions.{AddsAll}
use Rattle.schema_load.proofs.predicates.put_iris.Given as goal

abbrev pub invariant-loop-iri : goal.invariant-loop-iri
invariant-loop-iri l = AddsAll l.fn.terms (map Iri (take l.iri-index l.iris)) l.terms × ((more : List Term) × (l.terms ≡ l.fn.terms ++ more))
