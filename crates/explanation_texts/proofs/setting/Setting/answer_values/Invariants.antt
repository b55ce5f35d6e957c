use Rattle.std.proofs.Common.{◌≡◌, ◌++◌, drop, map}
use Rattle.serde_json.specs.View.{view}
use Rattle.explanation_texts.specs.Data.{answers_data}
use Rattle.explanation_texts.proofs.setting.Setting.answer_values.Given as goal

abbrev pub invariant-loop-place : goal.invariant-loop-place
invariant-loop-place l =
    map view l.values.items ++ answers_data l.self l.asked l.place l.before (drop l.place l.answers) ≡ answers_data l.self l.asked 0 0 l.answers
