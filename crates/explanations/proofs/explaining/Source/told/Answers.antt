use Rattle.std.proofs.Common.{arith}
use Rattle.explanations.proofs.Numbering.{goes_on}
use Rattle.explanations.proofs.Walked.{no_fewer}
use Rattle.explanations.proofs.explaining.Source.told.Goals as goal

pub blocks-requires-clause-from : goal.blocks-requires-clause-from
blocks-requires-clause-from g c =
    let more = no_fewer c.args.self.now.schema.now c.args.self.now.terms.now (g.V.View.known c.args.self.now.view.now) c.args.self.now.graph.now.triples
    c.args.seen.now c.asked_why.new.seen c.in_ok-why.ensures.numbers.grown in
    let n = c.len-from.ensures.count in
    omega (arith, more, n)

pub returns-clause-is : goal.returns-clause-is
returns-clause-is g c = λ all on. record {
  verdict = c.in_ok-verdict.ensures.verdict;
  why = c.in_ok-why.ensures.is all (goes_on c.asked_why.new.seen c.blocks-2.new.seen all c.in_ok-blocks.ensures.numbers.grown on);
}
