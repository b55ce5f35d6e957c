use Rattle.std.proofs.Common.{◌≡◌, ◌++◌, drop}
use Rattle.explanation_texts.specs.Reasons.{blocks_text}
use Rattle.explanation_texts.proofs.setting.Setting.push_blocks.Given as goal

abbrev pub invariant-loop-place : goal.invariant-loop-place
invariant-loop-place l =
    l.out.items ++ blocks_text l.self l.number l.place (drop l.place l.blocks) ≡ l.fn.out.items ++ blocks_text l.self l.number 0 l.blocks
