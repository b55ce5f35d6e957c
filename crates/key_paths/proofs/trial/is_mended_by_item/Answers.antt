use Rattle.std.proofs.Common.{◌≤◌, ◌<◌, sym, subst, arith}
use Rattle.serde_json.specs.Data.{depth}
use Rattle.serde_json.specs.View.{view}
use Rattle.json_paths.proofs.Depths.{with_step_depth}
use Rattle.key_paths.specs.Causes.{replaced}
use Rattle.key_paths.proofs.Trials.{mended}
use Rattle.key_paths.proofs.trial.is_mended_by_item.Goals as goal

pub is_refused_with-requires-clause-depth : goal.is_refused_with-requires-clause-depth
is_refused_with-requires-clause-depth c =
    let here = view c.args.place.now.here.now in
    let less : depth (view c.in_ok-list.list) < depth here = omega (arith, c.in_ok-list.ensures, c.requires.inner) in
    subst (λ d. depth d ≤ depth here) (sym c.in_ok-changed.ensures) (with_step_depth c.args.step.now (view c.in_ok-list.list) here (depth here) less (omega arith))

pub returns : goal.returns
returns c =
    let p = c.args.place.now in
    mended c.in_ok-refused.refused p.error.now (view p.document.now) p.path.now c.args.step.now (view p.here.now) (view c.in_ok-changed.changed)
    (replaced (view c.in_ok-list.list) c.in_ok-changed.ensures) c.in_ok-refused.ensures
