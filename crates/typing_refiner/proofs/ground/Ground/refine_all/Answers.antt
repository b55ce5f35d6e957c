use Rattle.std.proofs.Common.{[], map, suc, rules, ℕ, ◌≡◌, ◌∙◌, ◌<◌, ap, length, refl, subst, sym, Some, slice_get}
use Rattle.schema_tree.specs.declared.verdicts.Verdict.TheVariants.{Unknown, Yes}
use Rattle.removal_laws.specs.Marks.{known_by}
use Rattle.typing_refiner.specs.Refined.{IsRefinedOn}
use Rattle.typing_refiner.specs.Ready.{known_of}
use Rattle.schema_tree.specs.Typings.{top_of}
use Rattle.typing_refiner.specs.Records.{IsShownOver, MatchesAt}
use Rattle.typing_refiner.proofs.Shown.{all_match}
use Rattle.typing_refiner.proofs.Grounded.{written_back}
use Rattle.typing_refiner.proofs.Strata.{begun_with, refined_on}
use Rattle.typing_refiner.proofs.ground.Ground.refine_all.Goals as goal

pub returns-clause-refined : goal.returns-clause-refined
returns-clause-refined g c =
    subst (λ ms. IsRefinedOn c.args.self.now.schema.now c.args.self.now.terms.now c.args.self.now.graph.now.triples c.args.self.now.strata.now c.args.self.now.table.now c.args.self.now.budget
    (g.K.View.known c.args.kept.now) (known_by (g.K.View.known c.args.kept.now) c.args.self.now.table.now ms))
    (sym (written_back c.refine_strata.new.marks c.in_ok-marks.marks.items c.in_ok-marks.marks.len (search rules) (search rules)))
    (refined_on c.args.self.now c.args.self.now.table.now (g.K.View.known c.args.kept.now) c.as_mut_slice.result.now c.refine_strata.new.marks refl (ap length c.as_mut_slice.ensures.value
    ∙ (c.in_ok-marks.ensures.count ∙ c.len.ensures.count))
    (subst (λ ms. (i : ℕ) → i < length ms → slice_get ms i ≡ Some Unknown) (sym c.as_mut_slice.ensures.value) c.in_ok-marks.ensures.unknown) c.in_ok-gone.ensures.refined)

pub returns-clause-matches : goal.returns-clause-matches
returns-clause-matches g c =
    subst (λ ms. (i : ℕ) → slice_get ms i ≡ Some Yes → MatchesAt c.args.self.now (known_of c.args.self.now (g.K.View.known c.args.kept.now) ms) i)
    (sym (written_back c.refine_strata.new.marks c.in_ok-marks.marks.items c.in_ok-marks.marks.len (search rules) (search rules)))
    (all_match c.args.self.now c.requires.ready (g.K.View.known c.args.kept.now) c.as_mut_slice.result.now c.refine_strata.new.marks (ap length c.as_mut_slice.ensures.value
    ∙ (c.in_ok-marks.ensures.count ∙ c.len.ensures.count))
    (subst (λ ms. (i : ℕ) → i < length ms → slice_get ms i ≡ Some Unknown) (sym c.as_mut_slice.ensures.value) c.in_ok-marks.ensures.unknown) c.in_ok-gone.ensures.refined)

pub returns-clause-shown : goal.returns-clause-shown
returns-clause-shown g c =
    subst (λ ms. IsShownOver c.args.self.now (g.K.View.known c.args.kept.now) (known_by (g.K.View.known c.args.kept.now) c.args.self.now.table.now []) (suc (top_of c.args.self.now.strata.now)) ms
    (map (λ x. x.items) c.in_ok-gone.gone.items))
    (sym (written_back c.refine_strata.new.marks c.in_ok-marks.marks.items c.in_ok-marks.marks.len (search rules) (search rules)))
    (subst (λ z. IsShownOver c.args.self.now (g.K.View.known c.args.kept.now) z (suc (top_of c.args.self.now.strata.now)) c.refine_strata.new.marks (map (λ x. x.items) c.in_ok-gone.gone.items))
    (begun_with (g.K.View.known c.args.kept.now) c.args.self.now.table.now c.as_mut_slice.result.now (ap length c.as_mut_slice.ensures.value ∙ (c.in_ok-marks.ensures.count ∙ c.len.ensures.count))
    (subst (λ ms. (i : ℕ) → i < length ms → slice_get ms i ≡ Some Unknown) (sym c.as_mut_slice.ensures.value) c.in_ok-marks.ensures.unknown)) c.in_ok-gone.ensures.shown)
