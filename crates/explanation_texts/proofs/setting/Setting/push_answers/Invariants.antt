use Rattle.std.proofs.Common.{◌≡◌, ◌++◌, drop}
use Rattle.explanation_texts.specs.Answers.{answers_text}
use Rattle.explanation_texts.proofs.setting.Setting.push_answers.Given as goal

abbrev pub invariant-loop-place : goal.invariant-loop-place
invariant-loop-place l =
    l.out.items ++ answers_text l.self l.asked l.place l.before (drop l.place l.answers) ≡ l.fn.out.items ++ answers_text l.self l.asked 0 0 l.answers
