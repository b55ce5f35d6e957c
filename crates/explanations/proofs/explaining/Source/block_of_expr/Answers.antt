use Rattle.explanations.proofs.Blocked.{expr_block}
use Rattle.explanations.proofs.explaining.Source.block_of_expr.Goals as goal

pub returns-clause-is : goal.returns-clause-is
returns-clause-is g c = λ all on.
    expr_block c.args.self.now.schema.now c.args.self.now.terms.now (g.V.View.known c.args.self.now.view.now) all c.args.self.now.graph.now.triples c.args.node
    c.args.expr c.in_ok-causes.causes.items c.in_ok-told.told.items c.of.result c.of.ensures c.in_ok-causes.ensures.all
    (c.in_ok-causes.ensures.some c.requires.fails.0 c.requires.fails.1) (c.in_ok-told.ensures.are all on)
