use Rattle.std.proofs.Common.{rules, ◌≡◌, [], ◌++◌, ap, refl, sym, ◌∙◌}
use Rattle.std.proofs.lemmas.Result.{err_from_is_err_and}
use Rattle.std.proofs.lemmas.List.{nil_from_length}
use Rattle.lists.proofs.Additions.{grown_on}
use Rattle.lists.proofs.Members.{yields_on}
use Rattle.turtle_reader.proofs.ListLoading.{goes, goes_on, goes_wrong, goes_to_last}
use Rattle.turtle_reader.proofs.loading.load_objects.Goals as goal

pub loop-object-init : goal.loop-object-init
loop-object-init c = record { parts = sym c.into_iter-object-iterator.ensures.into_iter_gives.0; last = refl; goes = goes _ _ _ _ }

pub loop-object-preserved : goal.loop-object-preserved
loop-object-preserved c = record {
  parts = yields_on _ c.loop-object.yielded _ _ c.in-Some.object c.loop-object.invariant.parts c.in-Some.ensures.steps.0;
  last = c.loop-object.invariant.last;
  goes = goes_on _ _ _ _ _ _ _ _ _ c.loop-object.invariant.goes c.in-Some.object c.in_ok-load_object.ensures.loads c.in_ok-load_object.ensures.grown c.in_ok-load_object.ensures.appended;
}

pub returns-in_err-load_object-clause-loads : goal.returns-in_err-load_object-clause-loads
returns-in_err-load_object-clause-loads c =
    let p = err_from_is_err_and c.from_residual.result c.from_residual.ensures.1 in
    rw (p.1, p.2)
    (goes_wrong _ _ _ _ _ _ _ _ _ c.loop-object.invariant.goes c.args.before.items c.next.new.self.rest.items c.in-Some.object c.args.last c.in_err-load_object.field-0.0
    (c.loop-object.invariant.parts ∙ ap (λ v. c.loop-object.yielded ++ v) c.in-Some.ensures.steps.0) c.in_err-load_object.ensures.loads)

pub returns-in_err-load_object-clause-grown : goal.returns-in_err-load_object-clause-grown
returns-in_err-load_object-clause-grown c = grown_on _ _ _ c.loop-object.invariant.goes.grown c.in_err-load_object.ensures.grown

pub returns-in_err-load_object-clause-appended : goal.returns-in_err-load_object-clause-appended
returns-in_err-load_object-clause-appended c = grown_on _ _ _ c.loop-object.invariant.goes.appended c.in_err-load_object.ensures.appended

pub returns-clause-loads : goal.returns-clause-loads
returns-clause-loads c =
    let none_left : c.loop-object.object-iterator.rest.items ≡ [] = nil_from_length _ (search rules) in
    goes_to_last _ _ _ _ _ _ _ _ _ c.loop-object.invariant.goes c.load_object-2.result c.args.before.items _ _ c.args.last c.loop-object.invariant.parts none_left c.loop-object.invariant.last c.load_object-2.ensures.loads

pub returns-clause-grown : goal.returns-clause-grown
returns-clause-grown c = grown_on _ _ _ c.loop-object.invariant.goes.grown c.load_object-2.ensures.grown

pub returns-clause-appended : goal.returns-clause-appended
returns-clause-appended c = grown_on _ _ _ c.loop-object.invariant.goes.appended c.load_object-2.ensures.appended
