use Rattle.std.proofs.Common.{◌≡◌, ◌++◌, take}
use Rattle.std.specs.List.{flat_map}
use Rattle.explanation_texts.specs.Reasons.{triple_line}
use Rattle.explanation_texts.proofs.setting.Setting.push_triple_lines.Given as goal

abbrev pub invariant-loop-triple : goal.invariant-loop-triple
invariant-loop-triple l = l.out.items ≡ l.fn.out.items ++ flat_map (triple_line l.self.terms.now) (take l.triple-index l.triples)
