use Rattle.std.proofs.Common.{◌≤◌, sym, subst, arith}
use Rattle.serde_json.specs.Data.{depth}
use Rattle.serde_json.specs.View.{view}
use Rattle.json_paths.proofs.Depths.{without_depth}
use Rattle.key_paths.specs.Causes.{gone}
use Rattle.key_paths.proofs.Trials.{mended}
use Rattle.key_paths.proofs.trial.is_mended_without.Goals as goal

pub is_refused_with-requires-clause-depth : goal.is_refused_with-requires-clause-depth
is_refused_with-requires-clause-depth c =
    let here = view c.args.place.now.here.now in
    subst (λ d. depth d ≤ depth here) (sym c.in_ok-changed.ensures) (without_depth c.args.step.now here (depth here) (omega arith))

pub returns : goal.returns
returns c =
    let p = c.args.place.now in
    mended c.in_ok-refused.refused p.error.now (view p.document.now) p.path.now c.args.step.now (view p.here.now) (view c.in_ok-changed.changed) (gone c.in_ok-changed.ensures) c.in_ok-refused.ensures
