use Rattle.std.proofs.Common.{sym, arith, rules}
use Rattle.serde_json.specs.Data.{depth}
use Rattle.serde_json.specs.View.{view}
use Rattle.json_paths.specs.Paths.{with_at, with_step}
use Rattle.json_paths.proofs.Depths.{inside_depth}
use Rattle.key_paths.specs.Refusals.{IsRefused}
use Rattle.key_paths.proofs.Trials.{responsible}
use Rattle.key_paths.proofs.trial.is_responsible.Goals as goal

pub is_refused_at-requires-clause-inner : goal.is_refused_at-requires-clause-inner
is_refused_at-requires-clause-inner c =
    let here = view c.args.place.now.here.now in
    inside_depth c.args.step.now here (view c.in-Some.inner.now) (depth here) (sym c.in-Some.ensures) (omega arith)

pub is_mended-requires-clause-inner : goal.is_mended-requires-clause-inner
is_mended-requires-clause-inner c =
    let here = view c.args.place.now.here.now in
    inside_depth c.args.step.now here (view c.in-Some.inner.now) (depth here) (sym c.in-Some.ensures) (omega arith)

pub returns : goal.returns
returns c =
    let p = c.args.place.now in
    let here = view p.here.now in
    let refused : IsRefused p.error.now (with_at p.path.now (with_step c.args.step.now (view c.in-Some.inner.now) here) (view p.document.now)) = search rules in
    responsible c.in_ok-mended.mended p.error.now (view p.document.now) p.path.now c.args.step.now here (view c.in-Some.inner.now) c.requires.place (sym c.in-Some.ensures) refused c.in_ok-mended.ensures
