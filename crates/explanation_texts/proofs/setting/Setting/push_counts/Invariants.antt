use Rattle.std.proofs.Common.{◌≡◌, ◌++◌, drop}
use Rattle.explanation_texts.specs.Reasons.{counts_text}
use Rattle.explanation_texts.proofs.setting.Setting.push_counts.Given as goal

abbrev pub invariant-loop-number : goal.invariant-loop-number
invariant-loop-number l =
    l.out.items ++ counts_text l.self.terms.now l.occs l.high l.number (drop l.number l.low)
    ≡ l.fn.out.items ++ counts_text l.self.terms.now l.occs l.high 0 l.low
