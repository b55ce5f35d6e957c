use Rattle.std.proofs.Common.{◌≤◌, sym, subst}
use Rattle.serde_json.specs.Data.{depth}
use Rattle.serde_json.specs.View.{view}
use Rattle.json_paths.specs.Paths.{with_step}
use Rattle.json_paths.specs.declared.steps.Step.TheVariants.{Index}
use Rattle.key_paths.proofs.Trials.{text_alone}
use Rattle.key_paths.proofs.trial.with_example_alone.Goals as goal

pub returns : goal.returns
returns c =
    let value = view c.args.value.now in
    let kept = subst (λ x. depth (with_step (Index 0) x value) ≤ depth value) (sym c.in_ok-text.ensures) (text_alone _ value) in
    subst (λ d. depth d ≤ depth value) (sym c.in_ok-changed.ensures) kept
