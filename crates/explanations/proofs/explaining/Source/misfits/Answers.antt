use Rattle.explanations.specs.Blocks.{IsMisfit}
use Rattle.explanations.specs.Mentions.{misfit_mentions}
use Rattle.explanations.proofs.Told.{tell_next}
use Rattle.explanations.proofs.explaining.Source.misfits.Goals as goal

pub loop-number-preserved : goal.loop-number-preserved
loop-number-preserved g c =
    let s = c.args.self.now.schema.now in
    let terms = c.args.self.now.terms.now in
    let view = g.V.View.known c.args.self.now.view.now in
    tell_next s terms view (λ all. IsMisfit s terms view all c.args.occs.now c.args.triple) misfit_mentions c.args.seen.now c.loop-number.seen c.misfit.new.seen c.args.numbers.now
    c.loop-number.number-index 0 c.loop-number.misfits.items _ c.in_ok-misfit.field-0 c.loop-number-test.true c.loop-number.invariant
    c.in_ok-misfit.ensures.numbers c.in_ok-misfit.ensures.is c.in_ok-push.ensures.items
