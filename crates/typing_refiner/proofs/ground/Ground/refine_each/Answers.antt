use Rattle.std.proofs.Common.{◌*◌, ◌∙◌, ap, arith, map, suc}
use Rattle.schema_tree.specs.Typings.{top_of}
use Rattle.typing_refiner.proofs.Membered.{members_at}
use Rattle.typing_refiner.specs.Ready.{known_of}
use Rattle.typing_refiner.specs.Spent.{phase_ticks}
use Rattle.std.proofs.lemmas.List.{map-append}
use Rattle.typing_refiner.proofs.Showing.{shown_first, shown_more}
use Rattle.typing_refiner.proofs.Strata.{at_first, one_more_at}
use Rattle.typing_refiner.proofs.Spending.{spent_all, spent_next, total_more}
use Rattle.typing_refiner.proofs.ground.Ground.refine_each.Goals as goal

pub loop-stratum-init : goal.loop-stratum-init
loop-stratum-init g c =
    record { refined = at_first c.args.self.now _ c.args.marks.now c.requires.marked c.requires.unknown; shown = shown_first c.args.self.now _ c.args.marks.now _ (ap (λ xs. map (λ v. v.items) xs) c.new-all.ensures.items) c.requires.marked c.requires.unknown; spent = λ width give. (omega arith) }

pub loop-stratum-preserved : goal.loop-stratum-preserved
loop-stratum-preserved g c = record {
  refined =
      one_more_at c.args.self.now _ (known_of c.args.self.now _ c.args.marks.now) c.loop-stratum.stratum c.loop-stratum.marks c.refine_stratum.new.marks _ c.loop-stratum.invariant.refined
      (c.in_ok-gone.ensures.done c.loop-stratum.invariant.refined.known c.loop-stratum.invariant.refined.before);
  shown = shown_more c.args.self.now _ _ c.loop-stratum.stratum c.loop-stratum.marks c.refine_stratum.new.marks _ (map (λ v. v.items) c.push.new.self.items) _ c.loop-stratum.invariant.shown
      (c.in_ok-gone.ensures.done c.loop-stratum.invariant.shown.known c.loop-stratum.invariant.shown.before)
      (c.in_ok-gone.ensures.states c.loop-stratum.invariant.shown.known c.loop-stratum.invariant.shown.before)
      (ap (λ xs. map (λ v. v.items) xs) c.in_ok-push.ensures.items ∙ map-append (λ v. v.items) c.loop-stratum.all.items _);
  spent = λ width give. (let a = total_more (λ k. 2 * phase_ticks c.args.self.now width k) c.loop-stratum.stratum in let b = c.refine_stratum.ensures.spent width give in let d = c.loop-stratum.invariant.spent width give in omega (arith, a, b, d));
}

pub returns-in_err-gone-clause-spent : goal.returns-in_err-gone-clause-spent
returns-in_err-gone-clause-spent g c = λ width give.
    spent_next (λ k. 2 * phase_ticks c.args.self.now width k) c.args.steps.now c.loop-stratum.steps c.refine_stratum.new.steps c.loop-stratum.stratum (suc (top_of c.args.self.now.strata.now))
    (let e = c.requires.each in let l = c.loop-stratum-test.true in omega (arith, e, l)) (c.loop-stratum.invariant.spent width give) (c.refine_stratum.ensures.spent width give)

pub returns-clause-spent : goal.returns-clause-spent
returns-clause-spent g c = λ width give.
    spent_all (λ k. 2 * phase_ticks c.args.self.now width k) c.args.steps.now c.loop-stratum.steps c.loop-stratum.stratum (suc (top_of c.args.self.now.strata.now))
    (let e = c.requires.each in omega (arith, e)) (c.loop-stratum.invariant.spent width give)

pub returns-in_err-push-clause-spent : goal.returns-in_err-push-clause-spent
returns-in_err-push-clause-spent g c = λ width give.
    spent_next (λ k. 2 * phase_ticks c.args.self.now width k) c.args.steps.now c.loop-stratum.steps c.refine_stratum.new.steps c.loop-stratum.stratum (suc (top_of c.args.self.now.strata.now))
    (let e = c.requires.each in let l = c.loop-stratum-test.true in omega (arith, e, l)) (c.loop-stratum.invariant.spent width give) (c.refine_stratum.ensures.spent width give)

pub refine_stratum-requires-clause-members : goal.refine_stratum-requires-clause-members
refine_stratum-requires-clause-members g c =
    members_at c.args.self.now (map (λ v. v.items) c.args.members.now) c.loop-stratum.stratum c.list_at-members.result.now c.list_at-members.ensures c.requires.members
