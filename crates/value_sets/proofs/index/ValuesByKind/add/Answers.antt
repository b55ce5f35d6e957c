use Rattle.std.proofs.Common.{◌++◌, ◌∷◌, [], ap, refl, subst, ◌∙◌}
use Rattle.lists.specs.Additions.{Adds}
use Rattle.lists.proofs.Distinct.{adds_item}
use Rattle.rdf_terms.proofs.SameTerms.{same_term, term_decides}
use Rattle.value_sets.proofs.Indexing.{iri_stem_taken, is_other, lit_stem_taken, other_taken, term_taken}
use Rattle.value_sets.proofs.index.ValuesByKind.add.Goals as goal

pub returns-in_ok-insert-in-Term : goal.returns-in_ok-insert-in-Term
returns-in_ok-insert-in-Term c =
    term_taken c.args.self.now _ c.args.place c.args.value.now c.in-Term.term c.in-Term.is
    (subst (λ t. Adds c.args.self.now.terms.keys t c.insert.new.self.keys) c.in_ok-try_clone-in-Term.ensures
    (adds_item same_term term_decides c.args.self.now.terms.keys _ c.insert.new.self.keys c.in_ok-insert-in-Term.ensures.keys))
    refl refl refl

pub returns-in_ok-push-in-IriStem : goal.returns-in_ok-push-in-IriStem
returns-in_ok-push-in-IriStem c =
    iri_stem_taken c.args.self.now _ c.args.place c.args.value.now c.in-IriStem.stem c.in-IriStem.is refl
    (c.in_ok-push-in-IriStem.ensures.items ∙ ap (λ s. c.args.self.now.iri_stems.items ++ s ∷ []) c.in_ok-try_clone-in-IriStem.ensures) refl refl

pub returns-in_ok-push-in-LitStem : goal.returns-in_ok-push-in-LitStem
returns-in_ok-push-in-LitStem c =
    lit_stem_taken c.args.self.now _ c.args.place c.args.value.now c.in-LitStem.stem c.in-LitStem.is refl refl
    (c.in_ok-push-in-LitStem.ensures.items ∙ ap (λ s. c.args.self.now.lit_stems.items ++ s ∷ []) c.in_ok-try_clone-in-LitStem.ensures) refl

pub returns-in_ok-push-in_default : goal.returns-in_ok-push-in_default
returns-in_ok-push-in_default c =
    other_taken c.args.self.now _ c.args.place c.args.value.now (is_other c.args.value.now c.in_default.not-Term c.in_default.not-IriStem c.in_default.not-LitStem) refl refl refl c.in_ok-push-in_default.ensures.items
