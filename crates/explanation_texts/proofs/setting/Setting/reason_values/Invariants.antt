use Rattle.std.proofs.Common.{◌≡◌, map, take}
use Rattle.serde_json.specs.View.{view}
use Rattle.explanation_texts.specs.Trees.{reason_data}
use Rattle.explanation_texts.proofs.setting.Setting.reason_values.Given as goal

abbrev pub invariant-loop-reason : goal.invariant-loop-reason
invariant-loop-reason l = map view l.values.items ≡ map (reason_data l.self l.occs) (map (λ r. r.now) (take l.reason-index l.told))
