use Rattle.explanation_texts.specs.Naming.{HaveNames}
use Rattle.explanation_texts.proofs.names.Source.name_parts.Given as goal

abbrev pub invariant-loop-number : goal.invariant-loop-number
invariant-loop-number l = HaveNames l.self.schema.now l.self.terms.now l.named
