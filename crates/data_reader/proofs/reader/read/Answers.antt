use Rattle.std.proofs.Common.{subst}
use Rattle.data_reader.specs.declared.format.Format.TheVariants.{Turtle}
use Rattle.data_reader.specs.Documents.{IsData}
use Rattle.data_reader.proofs.Answered.{turtle_reads}
use Rattle.data_reader.proofs.reader.read.Goals as goal

pub returns-in-Turtle-clause-complete : goal.returns-in-Turtle-clause-complete
returns-in-Turtle-clause-complete c = λ last triples a b spelled loads within.
    let there : IsData Turtle c.args.base.now (last, triples) c.args.source.now = subst (λ f. IsData f c.args.base.now (last, triples) c.args.source.now) c.in-Turtle.is spelled in
    turtle_reads c.read.result there.0 last a c.read.new.terms b c.read.new.graph.triples there.1 (c.read.ensures.complete there.0 triples a b there.2 loads within)
