use Rattle.std.proofs.Common.{take}
use Rattle.explanations.proofs.Walked.{AreToldSoFar}
use Rattle.explanations.proofs.explaining.Source.answers.Given as goal

abbrev pub invariant-loop-association : goal.invariant-loop-association
invariant-loop-association g l =
    AreToldSoFar l.self.schema.now l.self.terms.now (g.V.View.known l.self.view.now) l.self.graph.now.triples l.seen
    (take l.association-index l.associations) l.answers.items
