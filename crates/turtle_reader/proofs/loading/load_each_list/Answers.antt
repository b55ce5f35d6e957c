use Rattle.std.proofs.Common.{rules, ◌≡◌, [], ◌++◌, ap, refl, sym, ◌∙◌}
use Rattle.std.proofs.lemmas.Result.{err_from_is_err_and}
use Rattle.std.proofs.lemmas.List.{nil_from_length}
use Rattle.lists.proofs.Additions.{grown_on}
use Rattle.lists.proofs.Members.{yields_on}
use Rattle.turtle_reader.proofs.ListLoading.{follows, follows_on, follows_wrong, follows_to_last}
use Rattle.turtle_reader.proofs.loading.load_each_list.Goals as goal

pub loop-list-init : goal.loop-list-init
loop-list-init c = record { parts = sym c.into_iter-list-iterator.ensures.into_iter_gives.0; last = refl; follows = follows _ _ _ }

pub loop-list-preserved : goal.loop-list-preserved
loop-list-preserved c = record {
  parts = yields_on _ c.loop-list.yielded _ _ c.in-Some.list c.loop-list.invariant.parts c.in-Some.ensures.steps.0;
  last = c.loop-list.invariant.last;
  follows = follows_on _ _ _ _ _ _ _ _ c.loop-list.invariant.follows c.in-Some.list c.in_ok-load_list.ensures.loads c.in_ok-load_list.ensures.grown
      c.in_ok-load_list.ensures.appended;
}

pub returns-in_err-load_list-clause-loads : goal.returns-in_err-load_list-clause-loads
returns-in_err-load_list-clause-loads c =
    let p = err_from_is_err_and c.from_residual.result c.from_residual.ensures.1 in
    rw (p.1, p.2)
    (follows_wrong _ _ _ _ _ _ _ _ c.loop-list.invariant.follows c.args.before.items c.next.new.self.rest.items c.in-Some.list c.args.last
    c.in_err-load_list.field-0.0
    (c.loop-list.invariant.parts ∙ ap (λ v. c.loop-list.yielded ++ v) c.in-Some.ensures.steps.0) c.in_err-load_list.ensures.loads)

pub returns-in_err-load_list-clause-grown : goal.returns-in_err-load_list-clause-grown
returns-in_err-load_list-clause-grown c = grown_on _ _ _ c.loop-list.invariant.follows.grown c.in_err-load_list.ensures.grown

pub returns-in_err-load_list-clause-appended : goal.returns-in_err-load_list-clause-appended
returns-in_err-load_list-clause-appended c = grown_on _ _ _ c.loop-list.invariant.follows.appended c.in_err-load_list.ensures.appended

pub returns-clause-loads : goal.returns-clause-loads
returns-clause-loads c =
    let none_left : c.loop-list.list-iterator.rest.items ≡ [] = nil_from_length _ (search rules) in
    follows_to_last _ _ _ _ _ _ _ _ c.loop-list.invariant.follows c.load_list-2.result c.args.before.items _ _ c.args.last c.loop-list.invariant.parts
    none_left c.loop-list.invariant.last c.load_list-2.ensures.loads

pub returns-clause-grown : goal.returns-clause-grown
returns-clause-grown c = grown_on _ _ _ c.loop-list.invariant.follows.grown c.load_list-2.ensures.grown

pub returns-clause-appended : goal.returns-clause-appended
returns-clause-appended c = grown_on _ _ _ c.loop-list.invariant.follows.appended c.load_list-2.ensures.appended
