use Rattle.explanations.specs.Blocks.{IsWhy}
use Rattle.explanations.specs.Mentions.{why_mentions}
use Rattle.explanations.proofs.Told.{tell_next}
use Rattle.explanations.proofs.explaining.Source.whys.Goals as goal

pub loop-expr-preserved : goal.loop-expr-preserved
loop-expr-preserved g c =
    let s = c.args.self.now.schema.now in
    let terms = c.args.self.now.terms.now in
    let view = g.V.View.known c.args.self.now.view.now in
    tell_next s terms view (λ all. IsWhy s terms view all c.args.node) why_mentions c.args.seen.now c.loop-expr.seen c.why.new.seen c.args.exprs.now
    c.loop-expr.expr-index (record { 0 = 0 }) c.loop-expr.whys.items _ c.in_ok-why.field-0 c.loop-expr-test.true c.loop-expr.invariant
    c.in_ok-why.ensures.numbers c.in_ok-why.ensures.is c.in_ok-push.ensures.items
