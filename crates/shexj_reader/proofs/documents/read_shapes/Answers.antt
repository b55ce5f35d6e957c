use Rattle.std.proofs.Common.{rules, ◌≡◌, codes, sym}
use Rattle.std.specs.Prelude.{None, Some, option_map}
use Rattle.serde_json.specs.Find.{as_array}
use Rattle.serde_json.specs.View.{items_view, view}
use Rattle.shexj_reader.specs.DocumentFaults.{DeclarationFault, ShapesFault}
use Rattle.shexj_reader.specs.Nesting.{max_nesting}
use Rattle.shexj_reader.specs.Faults.{form}
use Rattle.shexj_reader.proofs.Causes.{because, passed}
use Rattle.shexj_reader.proofs.ReadParts.{decls_more, decls_within}
use Rattle.shexj_reader.proofs.ValueParts.{item_at, listed}
use Rattle.shexj_reader.proofs.documents.read_shapes.Goals as goal

pub returns-in_default-as_array-clause-cause : goal.returns-in_default-as_array-clause-cause
returns-in_default-as_array-clause-cause c =
    let d = view c.in-Some.value.now in
    let at : option_map (λ v. view v.now) c.args.value ≡ Some d = search rules in
    let none : as_array d ≡ None = sym c.in_default-as_array.ensures in
    because (λ f. f ≡ form (codes "shapes")) (λ f. ShapesFault f (option_map (λ v. view v.now) c.args.value)) c.bad_form.result
    (λ f h. ShapesFault.no_list d h at none) c.bad_form.ensures

pub returns-in_err-decl-clause-cause : goal.returns-in_err-decl-clause-cause
returns-in_err-decl-clause-cause c =
    let d = view c.in-Some.value.now in
    let vs = c.deref-item-items.result.now in
    let at : option_map (λ v. view v.now) c.args.value ≡ Some d = search rules in
    let list : Some (items_view c.deref-item-items.result.now) ≡ as_array (view c.in-Some.value.now) = rw c.deref-item-items.ensures.value c.in-Some-as_array.ensures in
    passed (λ f. DeclarationFault f (view c.item-item.result)) (λ f. ShapesFault f (option_map (λ v. view v.now) c.args.value)) c.from_residual.result c.in_err-decl.field-0.0 c.from_residual.ensures.1
    (λ f h. ShapesFault.bad_item (items_view vs) c.loop-item.item-index (view c.item-item.result) (listed vs _ d at list) (item_at vs c.loop-item.item-index c.item-item.result c.loop-item-test.true c.item-item.is) h) c.in_err-decl.ensures.cause

pub loop-item-preserved : goal.loop-item-preserved
loop-item-preserved c = record {
  spelled = rw c.in_ok-push.ensures.items (decls_more c.loop-item.all.items c.deref-item-items.result.now c.loop-item.item-index c.in_ok-decl.decl c.item-item.result c.loop-item-test.true c.item-item.is c.loop-item.invariant.spelled c.in_ok-decl.ensures.ok.spelled);
  within = rw c.in_ok-push.ensures.items (decls_within c.loop-item.all.items c.in_ok-decl.decl max_nesting c.loop-item.invariant.within c.in_ok-decl.ensures.ok.within);
}
