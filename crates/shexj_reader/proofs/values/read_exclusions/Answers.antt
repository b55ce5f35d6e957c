use Rattle.std.proofs.Common.{rules, ◌≡◌, codes, sym}
use Rattle.std.specs.Prelude.{None, Some, option_map}
use Rattle.serde_json.specs.Find.{as_array}
use Rattle.serde_json.specs.View.{items_view, view}
use Rattle.shexj_reader.specs.Faults.{form}
use Rattle.shexj_reader.specs.ValueFaults.{ExclusionFault, ExclusionsFault}
use Rattle.shexj_reader.proofs.Causes.{because, passed}
use Rattle.shexj_reader.proofs.ValueParts.{exclusions_more, item_at, listed}
use Rattle.shexj_reader.proofs.values.read_exclusions.Goals as goal

pub returns-in_default-as_array-clause-cause : goal.returns-in_default-as_array-clause-cause
returns-in_default-as_array-clause-cause c =
    let d = view c.in-Some.value.now in
    let at : option_map (λ v. view v.now) c.args.value ≡ Some d = search rules in
    let none : as_array d ≡ None = sym c.in_default-as_array.ensures in
    because (λ f. f ≡ form (codes "exclusions")) (λ f. ExclusionsFault c.args.kind f (option_map (λ v. view v.now) c.args.value)) c.bad_form.result
    (λ f h. ExclusionsFault.no_list d h at none) c.bad_form.ensures

pub returns-in_err-exclusion-clause-cause : goal.returns-in_err-exclusion-clause-cause
returns-in_err-exclusion-clause-cause c =
    let d = view c.in-Some.value.now in
    let vs = c.deref-item-items.result.now in
    let at : option_map (λ v. view v.now) c.args.value ≡ Some d = search rules in
    let list : Some (items_view c.deref-item-items.result.now) ≡ as_array (view c.in-Some.value.now) = rw c.deref-item-items.ensures.value c.in-Some-as_array.ensures in
    passed (λ f. ExclusionFault c.args.kind f (view c.item-item.result))
    (λ f. ExclusionsFault c.args.kind f (option_map (λ v. view v.now) c.args.value)) c.from_residual.result c.in_err-exclusion.field-0.0 c.from_residual.ensures.1
    (λ f h. ExclusionsFault.bad_item (items_view vs) c.loop-item.item-index (view c.item-item.result) (listed vs _ d at list) (item_at vs c.loop-item.item-index c.item-item.result c.loop-item-test.true c.item-item.is) h) c.in_err-exclusion.ensures.cause

pub loop-item-preserved : goal.loop-item-preserved
loop-item-preserved c =
    rw c.in_ok-push.ensures.items (exclusions_more c.args.kind c.loop-item.all.items c.deref-item-items.result.now c.loop-item.item-index c.in_ok-exclusion.exclusion c.item-item.result c.loop-item-test.true c.item-item.is c.loop-item.invariant c.in_ok-exclusion.ensures.ok)
