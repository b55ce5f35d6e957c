use Rattle.std.proofs.Common.{◌++◌, ap, sym, ◌∙◌}
use Rattle.std.proofs.lemmas.Result.{err_from_is_err_and}
use Rattle.graph_index.specs.Loading.{nothing}
use Rattle.graph_index.proofs.Loaded.{loads_grow}
use Rattle.lists.proofs.Additions.{grown_on}
use Rattle.lists.proofs.Members.{yields_on}
use Rattle.turtle_reader.proofs.ListLoading.{subject_loads, subject_stops}
use Rattle.turtle_reader.proofs.loading.load_lists.Goals as goal

pub loop-list-init : goal.loop-list-init
loop-list-init c = (sym c.into_iter-list-iterator.ensures.into_iter_gives.0, nothing)

pub loop-list-preserved : goal.loop-list-preserved
loop-list-preserved c = (
  yields_on _ c.loop-list.yielded _ _ c.in-Some.list c.loop-list.invariant.0 c.in-Some.ensures.steps.0,
  subject_loads _ _ _ _ _ _ c.loop-list.yielded c.in-Some.list c.loop-list.invariant.1 c.in_ok-load_subject.ensures.loads,
)

pub returns-in_err-load_subject-clause-loads : goal.returns-in_err-load_subject-clause-loads
returns-in_err-load_subject-clause-loads c =
    let p = err_from_is_err_and c.from_residual.result c.from_residual.ensures.1 in
    rw (p.1, p.2)
    (subject_stops c.args.terms.now c.loop-list.terms c.load_subject.new.terms c.args.graph.now.triples c.loop-list.graph.triples
    c.load_subject.new.graph.triples c.args.lists.items c.loop-list.yielded c.next.new.self.rest.items c.in-Some.list
    c.in_err-load_subject.field-0.0 (c.loop-list.invariant.0 ∙ ap (λ v. c.loop-list.yielded ++ v) c.in-Some.ensures.steps.0) c.loop-list.invariant.1
    c.in_err-load_subject.ensures.loads)

pub returns-in_err-load_subject-clause-grown : goal.returns-in_err-load_subject-clause-grown
returns-in_err-load_subject-clause-grown c = grown_on _ _ _ (loads_grow _ _ _ _ _ c.loop-list.invariant.1).0 c.in_err-load_subject.ensures.grown

pub returns-in_err-load_subject-clause-appended : goal.returns-in_err-load_subject-clause-appended
returns-in_err-load_subject-clause-appended c = grown_on _ _ _ (loads_grow _ _ _ _ _ c.loop-list.invariant.1).1 c.in_err-load_subject.ensures.appended

pub returns-clause-grown : goal.returns-clause-grown
returns-clause-grown c = (loads_grow _ _ _ _ _ c.loop-list.invariant.1).0

pub returns-clause-appended : goal.returns-clause-appended
returns-clause-appended c = (loads_grow _ _ _ _ _ c.loop-list.invariant.1).1
