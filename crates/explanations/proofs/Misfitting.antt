-- The misfits of a reason.
use Rattle.std.proofs.Common.{◌≡◌, ◌∙◌, ℕ, refl, sym, subst, List, []}
use Rattle.std.specs.List.{AllByRecursion, AllZip}
use Rattle.rdf_terms.specs.declared.terms.Term.{Term}
use Rattle.rdf_terms.specs.declared.terms.Triple.{Triple}
use Rattle.schema_tree.specs.declared.schema.Occurrence.{Occurrence}
use Rattle.schema_tree.specs.declared.schema.Pair.{Pair}
use Rattle.schema_tree.specs.declared.schema.Schema.{Schema}
use Rattle.schema_tree.specs.declared.schema.Shape.{Shape}
use Rattle.schema_tree.specs.Entries.{shape_at}
use Rattle.schema_tree.specs.Loaded.{IsLoaded}
use Rattle.schema_tree.specs.Sure.{Known}
use Rattle.std.specs.Prelude.{Some}
use Rattle.nonconformance.specs.declared.reason.Reason.{Reason}
use Rattle.nonconformance.specs.declared.reason.Reason.TheVariants as Reasons
use Rattle.nonconformance.specs.Laws.{UnmatchedHasCauses}
use Rattle.nonconformance.specs.Reasons.{IsKnownReason}
use Rattle.explanations.specs.declared.explanation.Misfit.{Misfit}
use Rattle.explanations.specs.declared.subject.Subject.{Subject}
use Rattle.explanations.specs.Blocks.{HasMisfits, IsMisfit, fitting}
use Rattle.explanations.specs.Finding.{IsRefused}
use Rattle.explanations.proofs.Failing.{refused}

module _ (s : Schema) (terms : List Term) (view : Known) (p : Pair) where
  -- a reason that is not of an unmatched triple has no misfits
  pub no_misfits : (all : List Subject) (r : Reason) (misfits : List Misfit) → ((t : Triple) → ¬ (r ≡ Reasons.Unmatched t)) → misfits ≡ [] →
      HasMisfits s terms view all p r misfits
  no_misfits all (Reasons.Unmatched t) misfits other none = absurd (other t refl)
  no_misfits all (Reasons.Forbidden t) misfits other none = none
  no_misfits all (Reasons.TooFew constraints least found) misfits other none = none
  no_misfits all (Reasons.TooMany constraints most found) misfits other none = none
  no_misfits all (Reasons.NoMatchingCounts low high) misfits other none = none
  no_misfits all Reasons.NoMatchingPlaces misfits other none = none

  module _ (t : Triple) (sh : Shape) (is : shape_at s p.shape ≡ Some sh) (occs : List Occurrence) (lent : occs ≡ sh.occs) (numbers given : List ℕ)
      (found : numbers ≡ fitting p.node t occs) (handed : given ≡ numbers) where
    pub lent_refused : UnmatchedHasCauses → IsLoaded s → (g : List Triple) → IsKnownReason s terms g view p (Reasons.Unmatched t) →
        AllByRecursion (IsRefused s terms view occs t) given
    lent_refused values loaded g known =
        subst (λ z. AllByRecursion (IsRefused s terms view occs t) z) (sym (handed ∙ found))
        (subst (λ z. AllByRecursion (IsRefused s terms view z t) (fitting p.node t z)) (sym lent) (refused s terms view values loaded g p sh t is known))

    pub lent_misfits : (all : List Subject) (misfits : List Misfit) → AllZip (IsMisfit s terms view all occs t) given misfits →
        HasMisfits s terms view all p (Reasons.Unmatched t) misfits
    lent_misfits all misfits zip = (
      sh,
      is,
      subst (λ z. AllZip (IsMisfit s terms view all z t) (fitting p.node t z) misfits) lent
          (subst (λ z. AllZip (IsMisfit s terms view all occs t) z misfits) (handed ∙ found) zip),
    )
