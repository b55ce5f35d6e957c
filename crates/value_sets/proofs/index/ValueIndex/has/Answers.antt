use Rattle.std.proofs.Common.{IsTrue, ◌↔◌, inl, inr, subst, sym, true≢false, ◌∙◌}
use Rattle.std.specs.List.{Any}
use Rattle.indexmap.proofs.CallerLemmas.{Contains-list_any}
use Rattle.lists.proofs.Distinct.{missed_item}
use Rattle.rdf_terms.proofs.SameTerms.{same_term, term_decides}
use Rattle.value_sets.specs.Indexed.{HoldsAt}
use Rattle.value_sets.proofs.Indexing.{found_place, found_somewhere, found_stem, found_term}
use Rattle.value_sets.proofs.index.ValueIndex.has.Goals as goal
use Rattle.value_sets.proofs.index.ValueIndex.has.Goals.{then-contains, else-contains}

pub returns-then-has_stem : goal.returns-then-has_stem
returns-then-has_stem c = (
  λ _. elim c.if-contains.branch [
    | then-contains w ↦ found_term c.args.values.now c.args.self.now c.args.term.now c.requires (Contains-list_any same_term (λ a b. (term_decides a b).0) _ c.args.term.now (sym c.contains.ensures
        ∙ w.if-contains.true))
    | else-contains w ↦ found_stem c.args.values.now c.args.self.now c.args.term.now c.requires (w.has_stem.ensures.0 (sym w.value-is ∙ c.if-has_stem.true))
  ],
  λ _. c.if-has_stem.true,
)

pub returns-else-has_stem : goal.returns-else-has_stem
returns-else-has_stem c =
    let there : Any (HoldsAt c.args.values.now c.args.term.now) c.args.self.now.others.items ↔ IsTrue c.some_holds.result =
    subst (λ places. Any (HoldsAt c.args.values.now c.args.term.now) places ↔ IsTrue c.some_holds.result) c.as_slice.ensures.value (c.some_holds.ensures.1, c.some_holds.ensures.0) in (
      λ h. found_place c.args.values.now c.args.self.now.others.items c.args.term.now (there.1 h),
      λ h. elim c.if-contains.branch [
        | then-contains w ↦ absurd (true≢false (sym w.if-contains.true ∙ sym w.value-is ∙ c.if-has_stem.false))
        | else-contains w ↦ elim (found_somewhere c.args.values.now c.args.self.now c.args.term.now c.requires h) [
          | inl held ↦ absurd (missed_item same_term term_decides _ c.args.term.now (sym c.contains.ensures ∙ w.if-contains.false) held)
          | inr (inl begins) ↦ absurd (true≢false (sym (w.has_stem.ensures.1 begins) ∙ sym w.value-is ∙ c.if-has_stem.false))
          | inr (inr at) ↦ there.0 at
        ]
      ],
    )
