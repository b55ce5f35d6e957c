use Rattle.std.proofs.Common.{◌≡◌, map, take}
use Rattle.serde_json.specs.View.{view}
use Rattle.explanation_texts.specs.Trees.{cause_data}
use Rattle.explanation_texts.proofs.setting.Setting.cause_values.Given as goal

abbrev pub invariant-loop-cause : goal.invariant-loop-cause
invariant-loop-cause l = map view l.values.items ≡ map (cause_data l.self l.node) (take l.cause-index l.told)
