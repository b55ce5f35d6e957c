use Rattle.std.proofs.Common.{◌≡◌, ◌<◌, Some}
use Rattle.schema_tree.specs.declared.schema.ExprId.{ExprId}
use Rattle.schema_tree.specs.declared.schema.Expr.{Expr}
use Rattle.schema_tree.specs.Entries.{entry}
use Rattle.schema_tree.specs.Loaded.{RefersBelow}
use Rattle.library_tests.proofs.verdicts.all_refer_below.Given as goal

abbrev pub invariant-loop-number : goal.invariant-loop-number
invariant-loop-number l = (e : ExprId) (x : Expr) → e.0 < l.number → entry l.schema e ≡ Some x → RefersBelow l.schema e.0 x
