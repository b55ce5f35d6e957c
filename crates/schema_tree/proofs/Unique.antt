-- Two complete typings have the same pairs.
use Rattle.std.proofs.Common.{◌≡◌, ℕ, zero, suc, List, arith, true}
use Rattle.std.specs.Prelude.{nat_lt}
use Rattle.std.proofs.lemmas.Bool.Decides.{nat_tests}
use Rattle.rdf_terms.specs.declared.terms.TermId.{TermId}
use Rattle.rdf_terms.specs.declared.terms.Term.{Term}
use Rattle.rdf_terms.specs.declared.terms.Triple.{Triple}
use Rattle.schema_tree.specs.declared.schema.Schema.{Schema}
use Rattle.schema_tree.specs.declared.schema.Pair.{Pair}
use Rattle.schema_tree.specs.Edges.{level}
use Rattle.schema_tree.specs.Typings.{IsComplete, IsPartOf, IsGreatestAt, HaveSame, below}
use Rattle.lists.proofs.Filters.{in_filter}

module _ (s : Schema) (terms : List Term) (g : List Triple) (f : List ℕ) (U : List TermId) where
  -- one that is greatest holds another that agrees below
  holds :
      (T W : List Pair) (k : ℕ) → IsGreatestAt s terms g f U T k → IsGreatestAt s terms g f U W k → HaveSame (below f k W) (below f k T) →
      IsPartOf W T
  holds T W k a b agree = a.greatest W (record { over = b.over; agrees = agree; correct = b.correct })

  none_below : (T W : List Pair) → IsPartOf (below f 0 T) W
  none_below T W p h = absurd (nothing_under (level f p.shape) (in_filter (λ q. nat_lt (level f q.shape) 0) T p h).1)
    where
      nothing_under : (x : ℕ) → nat_lt x 0 ≡ true → ⊥
      nothing_under x e = grind (arith, nat_tests)

  pub complete_once : (k : ℕ) (T W : List Pair) → IsComplete s terms g f U T k → IsComplete s terms g f U W k → HaveSame T W
  complete_once zero T W a b =
      (holds W T zero b a (none_below T _, none_below W _), holds T W zero a b (none_below W _, none_below T _))
  complete_once (suc k) T W a b =
      let low = complete_once k _ _ a.1 b.1 in
      (holds W T (suc k) b.0 a.0 low, holds T W (suc k) a.0 b.0 (low.1, low.0))
