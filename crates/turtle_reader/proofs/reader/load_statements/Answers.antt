use Rattle.std.proofs.Common.{refl, sym, ◌∙◌, true}
use Rattle.std.proofs.lemmas.Result.{err_from_is_err_and}
use Rattle.graph_index.proofs.Loaded.{loads_grow}
use Rattle.turtle_reader.specs.Documents.{inner_depth}
use Rattle.turtle_reader.proofs.Places.{consumes_statement}
use Rattle.turtle_reader.proofs.Turns.{begins, comes_on, stops, ends_badly}
use Rattle.lists.proofs.Additions.{grown_on}
use Rattle.turtle_reader.proofs.reader.load_statements.Goals as goal

pub loop-c-init : goal.loop-c-init
loop-c-init c = (begins _ _ _ _, refl)

pub loop-c-smaller : goal.loop-c-smaller
loop-c-smaller c = let (u, e, s, l) = c.in_ok-load_statement.ensures.steps in consumes_statement true inner_depth _ _ u _ e

pub loop-c-preserved : goal.loop-c-preserved
loop-c-preserved c = (
  comes_on _ _ _ _ _ _ _ _ _ _ _ _ c.loop-c.invariant.0 (sym c.has_next.ensures ∙ c.loop-c-test.true) c.in_ok-load_statement.ensures.steps,
  c.in_ok-load_statement.ensures.source ∙ c.loop-c.invariant.1,
)

pub returns-in_err-load_statement-clause-ends : goal.returns-in_err-load_statement-clause-ends
returns-in_err-load_statement-clause-ends c =
    let p = err_from_is_err_and c.from_residual.result c.from_residual.ensures.1 in
    rw (p.1, p.2) (stops _ _ _ _ _ _ _ _ _ _ _ _ _ c.in_err-load_statement.field-0.0 c.loop-c.invariant.0 (sym c.has_next.ensures ∙ c.loop-c-test.true) c.in_err-load_statement.ensures.steps)

pub returns-in_err-load_statement-clause-grown : goal.returns-in_err-load_statement-clause-grown
returns-in_err-load_statement-clause-grown c = grown_on _ _ _ (loads_grow _ _ _ _ _ c.loop-c.invariant.0.loaded).0 c.in_err-load_statement.ensures.grown

pub returns-in_err-load_statement-clause-appended : goal.returns-in_err-load_statement-clause-appended
returns-in_err-load_statement-clause-appended c = grown_on _ _ _ (loads_grow _ _ _ _ _ c.loop-c.invariant.0.loaded).1 c.in_err-load_statement.ensures.appended

pub returns-in_err-end-clause-ends : goal.returns-in_err-end-clause-ends
returns-in_err-end-clause-ends c =
    let p = err_from_is_err_and c.from_residual-in_err-end.result c.from_residual-in_err-end.ensures.1 in
    rw p.1 (ends_badly _ _ _ _ _ _ _ c.in_err-end.field-0.0 p.0 _ _ c.loop-c.invariant.0 (sym c.has_next.ensures ∙ c.loop-c-test.false) c.in_err-end.ensures p.2)

pub returns-in_err-end-clause-grown : goal.returns-in_err-end-clause-grown
returns-in_err-end-clause-grown c = (loads_grow _ _ _ _ _ c.loop-c.invariant.0.loaded).0

pub returns-in_err-end-clause-appended : goal.returns-in_err-end-clause-appended
returns-in_err-end-clause-appended c = (loads_grow _ _ _ _ _ c.loop-c.invariant.0.loaded).1

pub returns-clause-grown : goal.returns-clause-grown
returns-clause-grown c = (loads_grow _ _ _ _ _ c.loop-c.invariant.0.loaded).0

pub returns-clause-appended : goal.returns-clause-appended
returns-clause-appended c = (loads_grow _ _ _ _ _ c.loop-c.invariant.0.loaded).1
