use Rattle.std.proofs.Common.{length}
use Rattle.typing_answers.proofs.Placing.{AreWritten}
use Rattle.typing_answers.proofs.nodes.places_by_number.Given as goal

abbrev pub invariant-loop-place : goal.invariant-loop-place
invariant-loop-place l = AreWritten (length l.terms) l.nodes l.place l.places.items
