use Rattle.std.proofs.Common.{◌≡◌, ◌++◌}
use Rattle.proof_file.specs.Answers.{AreClaimed}
use Rattle.proof_checker.proofs.claims.answers.Given as goal

abbrev pub invariant-loop-claim : goal.invariant-loop-claim
invariant-loop-claim l = record {
  all : l.fn.claims.items ≡ l.yielded ++ l.claim-iterator.rest.items;
  answers : AreClaimed l.nodes l.yielded l.answers.items;
}
