use Rattle.explanation_texts.specs.Naming.{HaveNames}
use Rattle.explanation_texts.proofs.names.Source.name_labelled.Given as goal

abbrev pub invariant-loop-place : goal.invariant-loop-place
invariant-loop-place l = HaveNames l.self.schema.now l.self.terms.now l.named
