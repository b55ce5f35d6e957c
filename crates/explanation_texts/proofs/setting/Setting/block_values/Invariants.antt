use Rattle.std.proofs.Common.{◌≡◌, ◌++◌, drop, map}
use Rattle.serde_json.specs.View.{view}
use Rattle.explanation_texts.specs.Trees.{blocks_data}
use Rattle.explanation_texts.proofs.setting.Setting.block_values.Given as goal

abbrev pub invariant-loop-place : goal.invariant-loop-place
invariant-loop-place l =
    map view l.values.items ++ blocks_data l.self l.number l.place (drop l.place l.blocks) ≡ blocks_data l.self l.number 0 l.blocks
