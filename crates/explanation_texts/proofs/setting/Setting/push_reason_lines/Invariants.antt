use Rattle.std.proofs.Common.{◌≡◌, ◌++◌, map, take}
use Rattle.std.specs.List.{flat_map}
use Rattle.explanation_texts.specs.Reasons.{told_reason_text}
use Rattle.explanation_texts.proofs.setting.Setting.push_reason_lines.Given as goal

abbrev pub invariant-loop-reason : goal.invariant-loop-reason
invariant-loop-reason l = l.out.items ≡ l.fn.out.items ++ flat_map (told_reason_text l.self l.occs) (map (λ r. r.now) (take l.reason-index l.told))
