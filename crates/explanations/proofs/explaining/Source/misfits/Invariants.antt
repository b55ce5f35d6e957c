use Rattle.std.proofs.Common.{take}
use Rattle.explanations.specs.Blocks.{IsMisfit}
use Rattle.explanations.specs.Mentions.{misfit_mentions}
use Rattle.explanations.proofs.Told.{AreTellings}
use Rattle.explanations.proofs.explaining.Source.misfits.Given as goal

abbrev pub invariant-loop-number : goal.invariant-loop-number
invariant-loop-number g l =
    AreTellings l.self.schema.now l.self.terms.now (g.V.View.known l.self.view.now)
    (λ all. IsMisfit l.self.schema.now l.self.terms.now (g.V.View.known l.self.view.now) all l.occs l.triple) misfit_mentions
    l.fn.seen l.seen (take l.number-index l.numbers) l.misfits.items
