use Rattle.std.proofs.Common.{◌≤◌, suc, arith, refl, subst}
use Rattle.demand.specs.Orders.{max_pairs}
use Rattle.schema_tree.specs.Typings.{top_of}
use Rattle.typing_refiner.specs.declared.ground.Ground.{Ground}
use Rattle.std.specs.Prelude.{IfOk}
use Rattle.removal_laws.specs.Marks.{known_by}
use Rattle.typing_refiner.specs.Evidence.{AreShownBy}
use Rattle.typing_refiner.specs.Refined.{IsRefinedOn, verdicts_of}
use Rattle.typing_refiner.proofs.Bounded.{bounded}
use Rattle.typing_refiner.proofs.Grounded.{narrow_at, needing_at, tested}
use Rattle.typing_refiner.proofs.refining.Question.refine_in.Goals as goal

pub refine_shown-requires : goal.refine_shown-requires
refine_shown-requires g c = record {
  ready = record {
    loaded = c.requires.posed.loaded;
    sealed = c.requires.posed.sealed;
    distinct = c.len-count.ensures.distinct;
    sorted = c.requires.sorted;
    few = subst (λ n. n ≤ max_pairs) c.len-count.ensures.count c.len-count.ensures.few;
    tested = tested c.width_is_one.ensures.one c.args.self.now.schema.now c.args.self.now.terms.now c.args.self.now.graph.now.triples c.args.self.now.budget c.args.table.now c.args.narrow.now c.args.narrow.now refl c.requires.narrow;
    narrow = narrow_at c.width_is_one.ensures.one c.args.self.now.schema.now c.args.self.now.terms.now c.args.self.now.graph.now.triples c.args.self.now.budget c.args.table.now c.args.narrow.now c.args.narrow.now refl c.requires.narrow c.requires.posed.budget;
    needing = needing_at (λ l. l.items) c.args.self.now.schema.now c.args.self.now.graph.now.triples c.args.table.now c.args.needing.now c.args.needing.now refl c.requires.needing;
  };
}

pub returns-clause-bounded : goal.returns-clause-bounded
returns-clause-bounded g c = λ width count widths counts.
    let spent = c.refine_shown.ensures.spent width widths in
    let ground : Ground =
    record { schema = c.args.self.now.schema; graph = c.args.self.now.graph; terms = c.args.self.now.terms; strata = c.list.result; table = c.args.table; narrow = c.args.narrow; needing = c.args.needing; budget = c.args.self.now.budget; wanted = c.args.self.now.wanted } in
    let all = bounded ground width count (c.requires.narrow width widths) c.requires.posed.budget c.len-count.ensures.distinct c.requires.needing c.strata_are_bounded.ensures.strata c.strata_are_bounded.ensures.needs
    counts (suc (top_of c.list.result.now)) in
    omega (arith, spent, all)

pub returns-clause-refined : goal.returns-clause-refined
returns-clause-refined g c =
    subst (λ k. IfOk c.refine_shown.result (λ v. IsRefinedOn c.args.self.now.schema.now c.args.self.now.terms.now c.args.self.now.graph.now.triples k c.args.table.now c.args.self.now.budget (g.K.View.known c.args.kept.now)
    (known_by (g.K.View.known c.args.kept.now) c.args.table.now v.marks.items)))
    c.list.ensures c.refine_shown.ensures.refined

pub returns-clause-shown : goal.returns-clause-shown
returns-clause-shown g c = λ wanted closed.
    subst (λ k. IfOk c.refine_shown.result (λ v. AreShownBy c.args.self.now.schema.now c.args.self.now.terms.now c.args.self.now.graph.now.triples k c.args.table.now c.args.self.now.budget
    (verdicts_of c.args.table.now v.marks.items) v.records.nodes.items v.records.sections.items))
    c.list.ensures (c.refine_shown.ensures.shown wanted closed)
