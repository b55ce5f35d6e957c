use Rattle.std.proofs.Common.{◌+◌, ◌*◌, take}
use Rattle.std.specs.HashMap.{get}
use Rattle.schema_tree.specs.Joined.{AreKept, same_expr}
use Rattle.schema_tree.specs.Sure.{IsSure}
use Rattle.schema_tree.proofs.Joining.{SoFar}
use Rattle.schema_tree.proofs.sure.Question.+verdicts.Given as goal

abbrev pub decreases-verdict : goal.decreases-verdict
decreases-verdict g l = 3 * l.expr.0 + 2

abbrev pub decreases-kept_or_joined : goal.decreases-kept_or_joined
decreases-kept_or_joined g l = 3 * l.expr.0 + 1

abbrev pub decreases-joined : goal.decreases-joined
decreases-joined g l = 3 * l.expr.0

abbrev pub invariant-joined-loop-member : goal.invariant-joined-loop-member
invariant-joined-loop-member g l = record {
  kept :
      AreKept (IsSure l.self.schema.now l.self.terms.now (g.V.View.known l.self.view.now) l.self.node) (get same_expr l.kept);
  so_far :
      SoFar (IsSure l.self.schema.now l.self.terms.now (g.V.View.known l.self.view.now) l.self.node) l.decisive (take l.member-index l.members) l.verdict;
}
