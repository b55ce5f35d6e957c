use Rattle.std.proofs.Common.{◌≡◌, ◌++◌, drop}
use Rattle.explanation_texts.specs.Reasons.{member_lines}
use Rattle.explanation_texts.proofs.setting.Setting.push_member_lines.Given as goal

abbrev pub invariant-loop-number : goal.invariant-loop-number
invariant-loop-number l =
    l.out.items ++ member_lines l.self l.node l.whys l.number (drop l.number l.members) ≡ l.fn.out.items ++ member_lines l.self l.node l.whys 0 l.members
