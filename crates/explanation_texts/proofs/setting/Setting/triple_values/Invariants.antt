use Rattle.std.proofs.Common.{◌≡◌, map, take}
use Rattle.serde_json.specs.View.{view}
use Rattle.explanation_texts.specs.Trees.{triple_data}
use Rattle.explanation_texts.proofs.setting.Setting.triple_values.Given as goal

abbrev pub invariant-loop-triple : goal.invariant-loop-triple
invariant-loop-triple l = map view l.values.items ≡ map (triple_data l.self.terms.now) (take l.triple-index l.triples)
