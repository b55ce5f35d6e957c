use Rattle.std.proofs.Common.{subst}
use Rattle.typing_refiner.specs.Evidence.{AreShownBy}
use Rattle.typing_refiner.specs.Refined.{verdicts_of}
use Rattle.typing_refiner.proofs.ground.Ground.refine_shown.Goals as goal

pub returns-in_ok-records-in-Records-clause-shown : goal.returns-in_ok-records-in-Records-clause-shown
returns-in_ok-records-in-Records-clause-shown g c = λ wanted closed.
    subst (λ ms. AreShownBy c.args.self.now.schema.now c.args.self.now.terms.now c.args.self.now.graph.now.triples c.args.self.now.strata.now c.args.self.now.table.now c.args.self.now.budget
    (verdicts_of c.args.self.now.table.now ms) c.in_ok-records-in-Records.records.nodes.items c.in_ok-records-in-Records.records.sections.items)
    c.as_slice.ensures.value (c.in_ok-records-in-Records.ensures.shown wanted closed)
