use Rattle.std.proofs.Common.{rules, ◌≡◌, ◌∙◌, ap, sym, List}
use Rattle.std.specs.Prelude.{Some}
use Rattle.std.proofs.lemmas.List.{take_all}
use Rattle.serde_json.specs.Find.{as_array, get}
use Rattle.serde_json.specs.View.{items_view, view}
use Rattle.serde_json.specs.declared.value.Value.{Value}
use Rattle.shexj_reader.specs.Faults.{IsBad, form}
use Rattle.shexj_reader.specs.Keys.{text, texts, texts_in}
use Rattle.shexj_reader.proofs.Causes.{because}
use Rattle.shexj_reader.proofs.TextLists.{at_list, no_text_of, text_of, texts_bad, texts_more}
use Rattle.shexj_reader.proofs.objects.texts_at.Goals as goal

pub returns-in_default-as_str-clause-cause : goal.returns-in_default-as_str-clause-cause
returns-in_default-as_str-clause-cause c =
    let d = view c.args.value.now in
    let there : get c.args.key.now (view c.args.value.now) ≡ Some (view c.in-Some.child.now) = search rules in
    let list : Some (items_view c.deref-item-items.result.now) ≡ as_array (view c.in-Some.child.now) = rw c.deref-item-items.ensures.value c.in-Some-as_array.ensures in
    because (λ f. f ≡ form c.args.key.now) (λ f. IsBad c.args.key.now texts f d) c.bad_form-in_default-as_str.result
    (λ f h. record {
      is = h;
      wrong = at_list _ _ _ there list
          ∙ texts_bad c.deref-item-items.result.now c.loop-item.item-index c.item-item.result c.loop-item-test.true c.item-item.is (no_text_of _ c.in_default-as_str.ensures);
    }) c.bad_form-in_default-as_str.ensures

pub loop-item-preserved : goal.loop-item-preserved
loop-item-preserved c =
    let own : text (Some (view c.item-item.result)) ≡ Some c.in_ok-own.own = text_of _ _ c.in-Some-as_str.ensures ∙ ap (λ s. Some s) (sym c.in_ok-own.ensures) in
    rw c.in_ok-push.ensures.items (texts_more c.deref-item-items.result.now c.loop-item.item-index c.item-item.result c.loop-item.all.items c.in_ok-own.own c.loop-item-test.true c.item-item.is c.loop-item.invariant own)

pub returns-clause-ok : goal.returns-clause-ok
returns-clause-ok c =
    let there : get c.args.key.now (view c.args.value.now) ≡ Some (view c.in-Some.child.now) = search rules in
    let list : Some (items_view c.deref-item-items.result.now) ≡ as_array (view c.in-Some.child.now) = rw c.deref-item-items.ensures.value c.in-Some-as_array.ensures in
    at_list _ _ _ there list ∙ ap (λ (vs : List Value). texts_in (items_view vs)) (sym (take_all c.loop-item.item-index c.deref-item-items.result.now c.loop-item-test.false)) ∙ c.loop-item.invariant
