use Rattle.std.proofs.Common.{◌≡◌, ◌≤◌, ◌∙◌, ap, sym, subst, arith, MatchBool}
use Rattle.serde_json.specs.Data.{depth}
use Rattle.serde_json.specs.View.{view}
use Rattle.json_paths.specs.Paths.{with_at, with_step}
use Rattle.json_paths.proofs.Depths.{with_step_depth}
use Rattle.key_paths.specs.Refusals.{IsOther, IsRefused}
use Rattle.key_paths.proofs.Trials.{first_alone}
use Rattle.key_paths.proofs.trial.is_refused_at.Goals as goal

pub is_refused_with-requires-clause-depth : goal.is_refused_with-requires-clause-depth
is_refused_with-requires-clause-depth c =
    let here = view c.args.place.now.here.now in
    let step = c.args.step.now in
    let is : view c.in_ok-kept.kept ≡ with_step step (view c.args.inner.now) here = c.in_ok-kept.ensures ∙ ap (λ d. with_step step d here) c.in_ok-copy.ensures.cases in
    subst (λ d. depth d ≤ depth here) (sym is) (with_step_depth step (view c.args.inner.now) here (depth here) c.requires.inner (omega arith))

pub returns : goal.returns
returns c =
    let p = c.args.place.now in
    let step = c.args.step.now in
    let here = view p.here.now in
    let is : view c.in_ok-kept.kept ≡ with_step step (view c.args.inner.now) here = c.in_ok-kept.ensures ∙ ap (λ d. with_step step d here) c.in_ok-copy.ensures.cases in
    first_alone c.in_ok-refused.refused _ _
    (subst (λ d. MatchBool c.in_ok-refused.refused (IsRefused p.error.now (with_at p.path.now d (view p.document.now))) (IsOther p.error.now (with_at p.path.now d (view p.document.now)))) is c.in_ok-refused.ensures)
