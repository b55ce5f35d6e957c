use Rattle.std.proofs.Common.{◌≡◌, refl, Option, Some, None, IsNone}
use Rattle.schema_tree.specs.declared.schema.ExprId.{ExprId}
use Rattle.schema_tree.proofs.schema.Schema.target.Goals as goal

-- a start that is absent is no target's, and one that is there is one
start_or_none : (start : Option ExprId) → (IsNone start → ((e : ExprId) × (start ≡ Some e)) → ⊥) × (¬ ((e : ExprId) × (start ≡ Some e)) → IsNone start)
start_or_none None = (λ e (x, h). cc, λ h. refl)
start_or_none (Some x) = (λ e. cc, λ h. absurd (h (x, refl)))

pub returns-in-Start-clause-absent : goal.returns-in-Start-clause-absent
returns-in-Start-clause-absent c = rw c.in-Start.is (start_or_none c.args.self.now.start)

pub returns-in-Label-clause-absent : goal.returns-in-Label-clause-absent
returns-in-Label-clause-absent c = rw c.in-Label.is c.find.ensures.absent
