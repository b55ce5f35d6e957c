use Rattle.typing_refiner.proofs.Tops.{ok_refinement}
use Rattle.typing_refiner.proofs.refining.Question.refine_alone.Goals as goal

pub returns-clause-refined : goal.returns-clause-refined
returns-clause-refined g c =
    ok_refinement c.args.self.now.schema.now c.args.self.now.terms.now c.args.self.now.graph.now.triples c.args.self.now.strata.now c.args.self.now.budget c.args.pairs.now c.refine_over.result c.refine_over.ensures.refined c.refine_over.ensures.table
