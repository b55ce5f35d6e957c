use Rattle.std.proofs.Common.{◌≡◌, inr, sym, subst, rules, Some}
use Rattle.serde_json.specs.View.{view}
use Rattle.json_paths.specs.Paths.{value_at}
use Rattle.json_paths.proofs.Depths.{value_at_last}
use Rattle.key_paths.specs.Causes.{IsResponsible}
use Rattle.key_paths.proofs.finding.steps_to_cause.Goals as goal

pub loop-depth-preserved : goal.loop-depth-preserved
loop-depth-preserved c =
    let path = c.loop-depth.path.items in
    let document = view c.args.document.now in
    let inner = view c.in-Some-inside.inner.now in
    let responsible : IsResponsible c.args.error.now document path c.in-Some.step = search rules in (
      subst (λ p. value_at p document ≡ Some inner) (sym c.in_ok-push.ensures.items)
          (value_at_last path c.in-Some.step document (view c.loop-depth.here.now) inner c.loop-depth.invariant.0 (sym c.in-Some-inside.ensures)),
      inr (record { path = path; step = c.in-Some.step; is = c.in_ok-push.ensures.items; responsible = responsible }),
    )
