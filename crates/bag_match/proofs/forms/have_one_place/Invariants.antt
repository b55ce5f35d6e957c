use Rattle.std.proofs.Common.{◌≡◌, ◌⊎◌, drop}
use Rattle.std.specs.Prelude.{Contains}
use Rattle.rdf_terms.specs.declared.terms.Triple.{Triple}
use Rattle.schema_tree.specs.Width.{places_for}
use Rattle.bag_match.proofs.forms.have_one_place.Given as goal

abbrev pub invariant-loop-i : goal.invariant-loop-i
invariant-loop-i l = (t : Triple) → Contains l.triples t → Contains (drop l.i l.triples) t ⊎ (places_for l.shape l.node t ≡ 1)
