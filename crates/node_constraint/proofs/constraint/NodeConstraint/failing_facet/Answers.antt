use Rattle.std.proofs.Common.{ap, subst, sym, ◌∙◌, IfOk, IsTrue}
use Rattle.node_constraint.specs.Constraint.{Constraint}
use Rattle.node_constraint.specs.Held.{AreReadFrom, IsFirstWithout, are_comparable}
use Rattle.node_constraint.specs.Making.{patterns_in}
use Rattle.node_constraint.specs.Parts.{HasFacet}
use Rattle.node_constraint.proofs.constraint.NodeConstraint.failing_facet.Goals as goal

pub failing_facet-requires-clause-comparable : goal.failing_facet-requires-clause-comparable
failing_facet-requires-clause-comparable c = subst (λ fs. IsTrue (are_comparable fs)) (sym c.as_slice.ensures.value) c.self.invariant.0

pub failing_facet-requires-clause-patterns : goal.failing_facet-requires-clause-patterns
failing_facet-requires-clause-patterns c =
    subst (λ fs. ∥ AreReadFrom (patterns_in fs) c.as_slice-2.result.now ∥₁) (sym c.as_slice.ensures.value)
    (subst (λ ps. ∥ AreReadFrom (patterns_in c.self.inside.facets.items) ps ∥₁) (sym c.as_slice-2.ensures.value) c.self.invariant.1)

pub returns : goal.returns
returns c =
    subst (λ fs. IfOk c.failing_facet.result (IsFirstWithout (HasFacet c.args.term.now) fs)) (c.as_slice.ensures.value ∙ ap (λ (s : Constraint). s.facets) c.self.view_is) c.failing_facet.ensures
