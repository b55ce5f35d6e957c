use Rattle.std.proofs.Common.{◌≤◌, ◌∙◌, ap, subst, sym}
use Rattle.std.specs.Prelude.{ℕ}
use Rattle.serde_json.specs.Data.{depth}
use Rattle.serde_json.specs.Read.{max_depth}
use Rattle.serde_json.specs.Written.{has_float}
use Rattle.explanation_texts.proofs.TreesPlain.{explanation_flat, explanation_plain}
use Rattle.explanation_texts.proofs.data.write_explanation_data.Goals as goal

pub text_of-requires-clause-plain : goal.text_of-requires-clause-plain
text_of-requires-clause-plain c = ap has_float c.in_ok-value.ensures ∙ explanation_plain c.args.setting.now c.args.asked.now c.args.explanation.now.answers

pub text_of-requires-clause-flat : goal.text_of-requires-clause-flat
text_of-requires-clause-flat c =
    subst (λ (n : ℕ). n ≤ max_depth) (sym (ap depth c.in_ok-value.ensures))
    (explanation_flat c.args.setting.now c.args.asked.now c.args.explanation.now.answers)
