use Rattle.std.proofs.Common.{refl, sym, ◌∙◌}
use Rattle.std.proofs.lemmas.Result.{err_from_is_err_and}
use Rattle.graph_index.proofs.Loaded.{loads_grow}
use Rattle.nt_reader.proofs.Places.{consumes_line}
use Rattle.nt_reader.proofs.Turns.{begins, comes_on, stops, ends_badly, grown_on}
use Rattle.nt_reader.proofs.reader.load_lines.Goals as goal

pub loop-alloc-init : goal.loop-alloc-init
loop-alloc-init c = (begins _ _ _, refl)

pub loop-alloc-smaller : goal.loop-alloc-smaller
loop-alloc-smaller c = let (xs, e, l) = c.in_ok-load_line.ensures.steps in consumes_line _ _ xs _ e

pub loop-alloc-preserved : goal.loop-alloc-preserved
loop-alloc-preserved c = (
  comes_on _ _ _ _ _ _ _ _ _ c.loop-alloc.invariant.0 (sym c.has_next.ensures ∙ c.loop-alloc-test.true) c.in_ok-load_line.ensures.steps,
  c.in_ok-load_line.ensures.source ∙ c.loop-alloc.invariant.1,
)

pub returns-in_err-load_line-clause-ends : goal.returns-in_err-load_line-clause-ends
returns-in_err-load_line-clause-ends c =
    let p = err_from_is_err_and c.from_residual.result c.from_residual.ensures.1 in
    rw (p.1, p.2) (stops _ _ _ _ _ _ _ _ _ c.in_err-load_line.field-0.0 c.loop-alloc.invariant.0 (sym c.has_next.ensures ∙ c.loop-alloc-test.true) c.in_err-load_line.ensures.steps)

pub returns-in_err-load_line-clause-grown : goal.returns-in_err-load_line-clause-grown
returns-in_err-load_line-clause-grown c = grown_on _ _ _ (loads_grow _ _ _ _ _ c.loop-alloc.invariant.0.loaded).0 c.in_err-load_line.ensures.grown

pub returns-in_err-load_line-clause-appended : goal.returns-in_err-load_line-clause-appended
returns-in_err-load_line-clause-appended c = grown_on _ _ _ (loads_grow _ _ _ _ _ c.loop-alloc.invariant.0.loaded).1 c.in_err-load_line.ensures.appended

pub returns-in_err-end-clause-ends : goal.returns-in_err-end-clause-ends
returns-in_err-end-clause-ends c =
    let p = err_from_is_err_and c.from_residual-in_err-end.result c.from_residual-in_err-end.ensures.1 in
    rw p.1 (ends_badly _ _ _ _ c.in_err-end.field-0.0 p.0 _ _ c.loop-alloc.invariant.0 (sym c.has_next.ensures ∙ c.loop-alloc-test.false) c.in_err-end.ensures p.2)

pub returns-in_err-end-clause-grown : goal.returns-in_err-end-clause-grown
returns-in_err-end-clause-grown c = (loads_grow _ _ _ _ _ c.loop-alloc.invariant.0.loaded).0

pub returns-in_err-end-clause-appended : goal.returns-in_err-end-clause-appended
returns-in_err-end-clause-appended c = (loads_grow _ _ _ _ _ c.loop-alloc.invariant.0.loaded).1

pub returns-clause-grown : goal.returns-clause-grown
returns-clause-grown c = (loads_grow _ _ _ _ _ c.loop-alloc.invariant.0.loaded).0

pub returns-clause-appended : goal.returns-clause-appended
returns-clause-appended c = (loads_grow _ _ _ _ _ c.loop-alloc.invariant.0.loaded).1
