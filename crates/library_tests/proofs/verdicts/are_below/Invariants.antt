use Rattle.std.proofs.Common.{Contains, take, ◌<◌}
use Rattle.schema_tree.specs.declared.schema.ExprId.{ExprId}
use Rattle.library_tests.proofs.verdicts.are_below.Given as goal

abbrev pub invariant-loop-member : goal.invariant-loop-member
invariant-loop-member l = (e : ExprId) → Contains (take l.member-index l.members) e → e.0 < l.number
