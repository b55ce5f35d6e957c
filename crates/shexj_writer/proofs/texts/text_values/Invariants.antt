use Rattle.std.proofs.Common.{◌≡◌, map, take}
use Rattle.std.specs.List.{AllByRecursion}
use Rattle.serde_json.specs.View.{view}
use Rattle.shexj_writer.specs.Held.{IsText}
use Rattle.shexj_writer.specs.Texts.{text_data}
use Rattle.shexj_writer.proofs.texts.text_values.Given as goal

abbrev pub invariant-loop-text : goal.invariant-loop-text
invariant-loop-text l =
    (map view l.all.items ≡ map text_data (take l.text-index l.texts)) × AllByRecursion IsText (take l.text-index l.texts)
