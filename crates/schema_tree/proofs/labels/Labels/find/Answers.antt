use Rattle.std.proofs.Common.{ap, sym, subst, Contains, true≢false, refl, is_some}
use Rattle.schema_tree.specs.Labels.{IsDeclared}
use Rattle.schema_tree.proofs.SameLabels.{declared_found, missed_label}
use Rattle.schema_tree.proofs.labels.Labels.find.Goals as goal

pub returns-in-Some-clause-found : goal.returns-in-Some-clause-found
returns-in-Some-clause-found c =
    subst (λ ls. Contains ls (c.args.label.now, c.in-Some.expr.now)) c.self.view_is (declared_found c.args.label.now c.in-Some.expr.now _ (sym c.in-Some.ensures.value))

pub returns-in-Some-clause-absent : goal.returns-in-Some-clause-absent
returns-in-Some-clause-absent c =
    (λ e. absurd (true≢false e), λ missing. absurd (missing (c.in-Some.expr.now, returns-in-Some-clause-found c)))

pub returns-in-None-clause-absent : goal.returns-in-None-clause-absent
returns-in-None-clause-absent c = (
  λ e. subst (λ ls. IsDeclared ls c.args.label.now → ⊥) c.self.view_is (missed_label c.args.label.now _ (ap is_some (sym c.in-None.ensures.value))),
  λ missing. refl,
)
