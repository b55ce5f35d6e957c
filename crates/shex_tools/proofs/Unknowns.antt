-- Which verdicts of refinement over the demanded pairs are Unknown is one thing.
use Rattle.std.proofs.Common.{◌≡◌, sym, subst, ℕ, List}
use Rattle.std.specs.Prelude.{Contains, ◌↔◌}
use Rattle.rdf_terms.specs.declared.terms.Term.{Term}
use Rattle.rdf_terms.specs.declared.terms.Triple.{Triple}
use Rattle.schema_tree.specs.declared.schema.Pair.{Pair}
use Rattle.schema_tree.specs.declared.schema.Schema.{Schema}
use Rattle.schema_tree.specs.declared.verdicts.Verdict.{Verdict}
use Rattle.schema_tree.specs.declared.verdicts.Verdict.TheVariants.{Yes, No, Unknown}
use Rattle.schema_tree.specs.Laws.{OneRefinement, SureFollowsAnswers}
use Rattle.schema_tree.specs.Loaded.{IsLoaded}
use Rattle.schema_tree.specs.Removal.{IsRefined}
use Rattle.schema_tree.specs.Sure.{Known, PairIs}
use Rattle.schema_tree.specs.Typings.{HaveSame}
use Rattle.demand.specs.Orders.{compare_pairs}
use Rattle.demand.proofs.PairOrder.{pairs_total}
use Rattle.lists.proofs.Ordered.{sorted_one}
use Rattle.label_extents.specs.Demanded.{AreDemanded}
use Rattle.label_extents.specs.Extents.{IsUndecided}

-- the demanded pairs are one list
demanded_one : (s : Schema) (terms : List Term) (g : List Triple) (ps qs : List Pair) → AreDemanded s terms g ps → AreDemanded s terms g qs → ps ≡ qs
demanded_one s terms g ps qs h k =
    sorted_one (compare_pairs terms) (pairs_total terms) ps qs h.sorted k.sorted (λ n c. (k.exactly n).1 ((h.exactly n).0 c)) (λ n c. (h.exactly n).1 ((k.exactly n).0 c))

-- views of the same pairs say the same of each
module _ (a b : Known) (same : HaveSame a.yes b.yes) (goes : a.no ≡ b.no) where
  same_to : (p : Pair) (v : Verdict) → PairIs a p v → PairIs b p v
  same_to p Yes is = same.0 p is
  same_to p No (out, held) = (λ h. out (same.1 p h), subst (λ ps. Contains ps p) goes held)
  same_to p Unknown (out, none) = (λ h. out (same.1 p h), λ h. none (subst (λ ps. Contains ps p) (sym goes) h))

-- refinements of the same pairs say the same of each
pub alike : (s : Schema) (terms : List Term) (g : List Triple) (f : List ℕ) (budget : ℕ) (ps : List Pair) (a b : Known) → OneRefinement → IsLoaded s →
    IsRefined s terms g f ps budget a → IsRefined s terms g f ps budget b → (p : Pair) (v : Verdict) → PairIs a p v ↔ PairIs b p v
alike s terms g f budget ps a b one loaded first second p v =
    let (same, goes) = one s terms g f ps budget a b loaded first second in
    (same_to a b same goes p v, same_to b a (same.1, same.0) (sym goes) p v)

pub undecided_to : (s : Schema) (terms : List Term) (g : List Triple) (f : List ℕ) (budget : ℕ) (ps qs : List Pair) (a b : Known) → OneRefinement → SureFollowsAnswers → IsLoaded s →
    AreDemanded s terms g ps → AreDemanded s terms g qs → IsRefined s terms g f ps budget a → IsRefined s terms g f qs budget b → IsUndecided s terms g a → IsUndecided s terms g b
undecided_to s terms g f budget ps qs a b one follows loaded h k first second is =
    let (same, goes) = one s terms g f qs budget a b loaded (subst (λ zs. IsRefined s terms g f zs budget a) (demanded_one s terms g ps qs h k) first) second in
    record {
      label = is.label;
      expr = is.expr;
      node = is.node;
      declared = is.declared;
      is_node = is.is_node;
      unknown = (follows s terms a b loaded (λ p v. (same_to a b same goes p v, same_to b a (same.1, same.0) (sym goes) p v)) is.node is.expr Unknown).0 is.unknown;
    }
