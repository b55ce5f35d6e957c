-- The orders of numbers and of triples by texts are total.
use Rattle.std.proofs.Common.{◌≡◌, List}
use Rattle.std.specs.Cmp.Lexicographic.{slice_cmp}
use Rattle.std.specs.FinMap.{nat_cmp-IsAntisymmetric}
use Rattle.std.specs.Ordering.{nat_cmp, ordering_then}
use Rattle.std.specs.declared.cmp.Ordering.{Ordering}
use Rattle.std.specs.declared.cmp.Ordering.TheVariants.{Less, Equal, Greater}
use Rattle.rdf_terms.specs.declared.terms.Term.{Term}
use Rattle.rdf_terms.specs.declared.terms.TermId.{TermId}
use Rattle.rdf_terms.specs.Order.{compare_at, text_at}

second_equal : (a b : Ordering) → ordering_then a b ≡ Equal → b ≡ Equal
second_equal Less b e = cc
second_equal Equal b e = e
second_equal Greater b e = cc

-- only a number itself stands where it does
pub id_alone : (terms : List Term) (a b : TermId) → compare_at terms a b ≡ Equal → a.0 ≡ b.0
id_alone terms a b e = nat_cmp-IsAntisymmetric a.0 b.0 (second_equal (slice_cmp nat_cmp (text_at terms a) (text_at terms b)) (nat_cmp a.0 b.0) e)
