use Rattle.std.proofs.Common.{◌≡◌, ◌++◌, drop, map}
use Rattle.serde_json.specs.View.{view}
use Rattle.explanation_texts.specs.Trees.{members_data}
use Rattle.explanation_texts.proofs.setting.Setting.member_values.Given as goal

abbrev pub invariant-loop-number : goal.invariant-loop-number
invariant-loop-number l =
    map view l.values.items ++ members_data l.self l.node l.whys l.number (drop l.number l.members) ≡ members_data l.self l.node l.whys 0 l.members
