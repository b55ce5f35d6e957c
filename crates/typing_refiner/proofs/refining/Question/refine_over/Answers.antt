use Rattle.std.proofs.Common.{◌+◌, ◌≤◌, subst}
use Rattle.removal_laws.specs.Marks.{known_by}
use Rattle.typing_refiner.specs.Refined.{IsRefinedOn, verdicts_of}
use Rattle.schema_tree.specs.Needs.{HoldNeeds}
use Rattle.typing_refiner.specs.Evidence.{AreShownBy}
use Rattle.typing_refiner.specs.Statements.{CountNeeds, most_of}
use Rattle.typing_refiner.proofs.refining.Question.refine_over.Goals as goal

pub returns-clause-refined : goal.returns-clause-refined
returns-clause-refined g c =
    subst (λ ps. IsRefinedOn c.args.self.now.schema.now c.args.self.now.terms.now c.args.self.now.graph.now.triples c.args.self.now.strata.now ps c.args.self.now.budget (g.K.View.known c.args.kept.now)
    (known_by (g.K.View.known c.args.kept.now) ps c.in_ok-found.found.marks.items))
    c.in_ok-table.ensures c.in_ok-found.ensures.refined

pub returns-clause-bounded : goal.returns-clause-bounded
returns-clause-bounded g c = λ width count widths counts.
    subst (λ ps. CountNeeds c.args.self.now.schema.now c.args.self.now.graph.now.triples ps count →
    c.refine_told.new.steps ≤ c.args.steps.now + most_of c.args.self.now.schema.now c.args.self.now.terms.now c.args.self.now.graph.now.triples c.args.self.now.budget width count ps)
    c.in_ok-table.ensures (c.refine_told.ensures.bounded width count widths) counts

pub returns-in_err-found-clause-bounded : goal.returns-in_err-found-clause-bounded
returns-in_err-found-clause-bounded g c = λ width count widths counts.
    subst (λ ps. CountNeeds c.args.self.now.schema.now c.args.self.now.graph.now.triples ps count →
    c.refine_told.new.steps ≤ c.args.steps.now + most_of c.args.self.now.schema.now c.args.self.now.terms.now c.args.self.now.graph.now.triples c.args.self.now.budget width count ps)
    c.in_ok-table.ensures (c.refine_told.ensures.bounded width count widths) counts

pub returns-clause-shown : goal.returns-clause-shown
returns-clause-shown g c = λ wanted.
    subst (λ ps. HoldNeeds c.args.self.now.schema.now c.args.self.now.graph.now.triples ps →
    AreShownBy c.args.self.now.schema.now c.args.self.now.terms.now c.args.self.now.graph.now.triples c.args.self.now.strata.now ps c.args.self.now.budget
    (verdicts_of c.in_ok-table.table c.in_ok-found.found.marks.items) c.in_ok-found.found.records.nodes.items c.in_ok-found.found.records.sections.items)
    c.in_ok-table.ensures (c.in_ok-found.ensures.shown wanted)
