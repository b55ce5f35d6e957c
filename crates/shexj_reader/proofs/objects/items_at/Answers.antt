use Rattle.std.proofs.Common.{rules, ◌≡◌, sym, ◌∙◌}
use Rattle.std.specs.Prelude.{Some, option_and_then}
use Rattle.serde_json.specs.Find.{as_array, get}
use Rattle.serde_json.specs.View.{items_view, view}
use Rattle.shexj_reader.proofs.TextLists.{members_found}
use Rattle.shexj_reader.proofs.objects.items_at.Goals as goal

pub returns-clause-ok : goal.returns-clause-ok
returns-clause-ok c =
    let found : Some (items_view c.in-Some.items.now.items) ≡ option_and_then as_array (get c.args.key.now (view c.args.value.now)) = search rules in
    let here : Some (items_view c.as_slice-items.result.now) ≡ option_and_then as_array (get c.args.key.now (view c.args.value.now)) = rw c.as_slice-items.ensures.value found in
    members_found _ c.as_slice-items.result.now here (sym c.is_empty.ensures ∙ c.if-is_empty.false)
