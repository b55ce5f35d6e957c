use Rattle.std.proofs.Common.{◌≡◌, ◌++◌, drop, map}
use Rattle.serde_json.specs.View.{view}
use Rattle.explanation_texts.specs.Trees.{counts_data}
use Rattle.explanation_texts.proofs.setting.Setting.count_values.Given as goal

abbrev pub invariant-loop-number : goal.invariant-loop-number
invariant-loop-number l =
    map view l.values.items ++ counts_data l.self.terms.now l.occs l.high l.number (drop l.number l.low)
    ≡ counts_data l.self.terms.now l.occs l.high 0 l.low
