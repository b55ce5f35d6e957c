use Rattle.std.proofs.Common.{◌≡◌, map, take}
use Rattle.serde_json.specs.View.{view}
use Rattle.explanation_texts.specs.Trees.{constraint_data}
use Rattle.explanation_texts.proofs.setting.Setting.constraint_values.Given as goal

abbrev pub invariant-loop-number : goal.invariant-loop-number
invariant-loop-number l = map view l.values.items ≡ map (constraint_data l.self.terms.now l.occs) (take l.number-index l.numbers)
