use Rattle.std.proofs.Common.{◌≡◌, [], ap, rules, subst, sym, true≢false, ◌∙◌, IsTrue}
use Rattle.std.proofs.lemmas.List.{nil_from_length}
use Rattle.node_constraint.specs.Constraint.{Constraint}
use Rattle.node_constraint.specs.Held.{AreReadFrom, are_comparable}
use Rattle.node_constraint.specs.Making.{patterns_in}
use Rattle.node_constraint.proofs.Joining.{held, no_facets, none_of}
use Rattle.node_constraint.proofs.constraint.NodeConstraint.holds.Goals as goal

pub returns-then-not-fits : goal.returns-then-not-fits
returns-then-not-fits c = none_of c.args.self.now c.args.term.now (λ h. true≢false (sym (c.fits.ensures.1 h) ∙ c.if-not-fits.true))

pub returns-then-is_empty : goal.returns-then-is_empty
returns-then-is_empty c =
    let none : c.self.inside.facets.items ≡ [] = nil_from_length c.self.inside.facets.items (search rules) in
    no_facets c.args.self.now c.args.term.now (c.fits.ensures.0 c.if-not-fits.false) (sym (ap (λ (s : Constraint). s.facets) c.self.view_is) ∙ none)

pub facets_hold-requires-clause-comparable : goal.facets_hold-requires-clause-comparable
facets_hold-requires-clause-comparable c = subst (λ fs. IsTrue (are_comparable fs)) (sym c.as_slice.ensures.value) c.self.invariant.0

pub facets_hold-requires-clause-patterns : goal.facets_hold-requires-clause-patterns
facets_hold-requires-clause-patterns c =
    subst (λ fs. ∥ AreReadFrom (patterns_in fs) c.as_slice-2.result.now ∥₁) (sym c.as_slice.ensures.value)
    (subst (λ ps. ∥ AreReadFrom (patterns_in c.self.inside.facets.items) ps ∥₁) (sym c.as_slice-2.ensures.value) c.self.invariant.1)

pub returns : goal.returns
returns c =
    held c.args.self.now c.as_slice.result.now c.args.term.now c.facets_hold.result (c.as_slice.ensures.value ∙ ap (λ (s : Constraint). s.facets) c.self.view_is)
    (c.fits.ensures.0 c.if-not-fits.false) c.facets_hold.ensures
