use Rattle.std.proofs.Common.{◌≡◌, take}
use Rattle.std.specs.Prelude.{Some}
use Rattle.serde_json.specs.View.{items_view}
use Rattle.shexj_reader.specs.Keys.{texts_in}
use Rattle.shexj_reader.proofs.objects.texts_at.Given as goal

abbrev pub invariant-loop-item : goal.invariant-loop-item
invariant-loop-item l = texts_in (items_view (take l.item-index l.item-items)) ≡ Some l.all.items
