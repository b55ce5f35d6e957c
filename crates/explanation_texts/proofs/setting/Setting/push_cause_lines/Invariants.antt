use Rattle.std.proofs.Common.{◌≡◌, ◌++◌, take}
use Rattle.std.specs.List.{flat_map}
use Rattle.explanation_texts.specs.Reasons.{told_cause_text}
use Rattle.explanation_texts.proofs.setting.Setting.push_cause_lines.Given as goal

abbrev pub invariant-loop-cause : goal.invariant-loop-cause
invariant-loop-cause l = l.out.items ≡ l.fn.out.items ++ flat_map (told_cause_text l.self l.node) (take l.cause-index l.told)
