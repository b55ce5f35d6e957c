use Rattle.std.proofs.Common.{take}
use Rattle.explanations.specs.Blocks.{IsWhy}
use Rattle.explanations.specs.Mentions.{why_mentions}
use Rattle.explanations.proofs.Told.{AreTellings}
use Rattle.explanations.proofs.explaining.Source.whys.Given as goal

abbrev pub invariant-loop-expr : goal.invariant-loop-expr
invariant-loop-expr g l =
    AreTellings l.self.schema.now l.self.terms.now (g.V.View.known l.self.view.now)
    (λ all. IsWhy l.self.schema.now l.self.terms.now (g.V.View.known l.self.view.now) all l.node) why_mentions
    l.fn.seen l.seen (take l.expr-index l.exprs) l.whys.items
