use Rattle.std.proofs.Common.{rules, inr, sym, ◌≡◌, ◌∙◌}
use Rattle.std.specs.Prelude.{Some}
use Rattle.serde_json.specs.Find.{as_array, get}
use Rattle.serde_json.specs.View.{items_view, view}
use Rattle.shexj_reader.proofs.Acts.{some_acts}
use Rattle.shexj_reader.proofs.objects.no_acts.Goals as goal

pub returns-else-is_empty-clause-cause : goal.returns-else-is_empty-clause-cause
returns-else-is_empty-clause-cause c =
    let there : get c.args.key.now (view c.args.value.now) ≡ Some (view c.in-Some.acts.now) = search rules in
    let list : Some (items_view c.as_slice.result.now) ≡ as_array (view c.in-Some.acts.now) = rw c.as_slice.ensures.value c.in-Some-as_array.ensures in
    inr (some_acts c.args.key.now _ _ c.as_slice.result.now there list (sym c.is_empty.ensures ∙ c.if-is_empty.false))
