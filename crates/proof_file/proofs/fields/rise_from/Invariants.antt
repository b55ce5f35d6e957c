use Rattle.std.proofs.Common.{drop}
use Rattle.schema_tree.specs.Rising.{RisesFrom}
use Rattle.schema_tree.specs.States.{IsStateBefore}
use Rattle.proof_file.proofs.fields.rise_from.Given as goal

abbrev pub invariant-loop-state : goal.invariant-loop-state
invariant-loop-state l = record {
  there : RisesFrom IsStateBefore l.fn.first l.rest → RisesFrom IsStateBefore l.last (drop l.state-index l.rest);
  back : RisesFrom IsStateBefore l.last (drop l.state-index l.rest) → RisesFrom IsStateBefore l.fn.first l.rest;
}
