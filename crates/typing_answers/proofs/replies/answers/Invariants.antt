use Rattle.std.proofs.Common.{◌≡◌, ◌++◌}
use Rattle.typing_answers.specs.Replies.{AreSureAnswers}
use Rattle.typing_answers.proofs.replies.answers.Given as goal

abbrev pub invariant-loop-association : goal.invariant-loop-association
invariant-loop-association g l = record {
  all : l.fn.associations.items ≡ l.yielded ++ l.association-iterator.rest.items;
  replied : AreSureAnswers l.schema l.terms (g.V.View.known l.view) l.yielded l.answers.items;
}
