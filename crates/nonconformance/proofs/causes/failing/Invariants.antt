use Rattle.std.proofs.Common.{take}
use Rattle.schema_tree.specs.declared.verdicts.Verdict.TheVariants.{No}
use Rattle.schema_tree.specs.Sure.{IsSure}
use Rattle.nonconformance.specs.Those.{AreThose}
use Rattle.nonconformance.proofs.causes.failing.Given as goal

abbrev pub invariant-loop-expr : goal.invariant-loop-expr
invariant-loop-expr g l = AreThose (λ d. IsSure l.schema l.terms (g.V.View.known l.view) l.node d No) (take l.expr-index l.exprs) l.found.items
