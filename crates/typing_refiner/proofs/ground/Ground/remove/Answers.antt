use Rattle.std.proofs.Common.{arith, ◌≡◌, ◌⊎◌, inl, inr, map, sym, ap, refl, subst, length, Contains}
use Rattle.schema_tree.specs.declared.verdicts.Verdict.TheVariants.{No, Unknown}
use Rattle.typing_refiner.specs.Records.{HaveStates}
use Rattle.typing_refiner.proofs.Gone.{none_gone}
use Rattle.typing_refiner.specs.Ready.{IsOpen}
use Rattle.typing_refiner.proofs.Removals.{begun, none_left, on_agenda, todo_same}
use Rattle.typing_refiner.proofs.Spending.{opened, taken}
use Rattle.typing_refiner.proofs.Stored.{none_held}
use Rattle.typing_refiner.proofs.Steps.{count_most, count_some, unknown_no, within}
use Rattle.typing_refiner.proofs.ground.Ground.remove.Goals as goal

pub loop-at-init : goal.loop-at-init
loop-at-init g c =
    let are = on_agenda c.new-agenda.result c.args.members.now c.put_all.new.agenda (IsOpen c.args.self.now c.args.stratum) c.new-agenda.ensures c.in_ok-put_all.ensures c.requires.members in
    record {
      removing = λ lower before. begun c.args.self.now c.requires.ready _ lower c.args.stratum c.args.marks.now c.put_all.new.agenda are _ (ap (λ rs. map (λ r. r.pair) rs) c.new-gone.ensures.items) before;
      states = λ lower before. subst (HaveStates c.args.self.now lower) (sym c.new-gone.ensures.items) (none_gone c.args.self.now lower);
      paid = λ width give. (let e = opened c.args.self.now width c.args.stratum Unknown c.args.marks.now c.put_all.new.agenda in omega (arith, e));
      few = (let l = ap length c.new-gone.ensures.items in let m = count_most Unknown c.args.marks.now in let e = c.requires.marked in omega (arith, l, m, e));
      shows = λ i w p holds there. absurd (none_held c.none-witnesses.result c.none-witnesses.ensures i w holds);
      waits = λ i on. ((are i).0 on, c.requires.fresh i ((c.requires.members i).1 ((are i).0 on)));
    }

pub remove_next-requires-clause-there : goal.remove_next-requires-clause-there
remove_next-requires-clause-there g c =
    within c.args.self.now c.args.stratum c.in-Some.at (c.loop-at.invariant.waits c.in-Some.at ((c.in-Some.ensures.taken c.in-Some.at).1 (inr refl))).0

pub remove_next-requires-clause-few : goal.remove_next-requires-clause-few
remove_next-requires-clause-few g c =
    let w = c.loop-at.invariant.waits c.in-Some.at ((c.in-Some.ensures.taken c.in-Some.at).1 (inr refl)) in
    let some = count_some Unknown No unknown_no c.loop-at.marks c.in-Some.at w.1 in let b = c.loop-at.invariant.few in omega (arith, some, b)

pub remove_next-requires-clause-waits : goal.remove_next-requires-clause-waits
remove_next-requires-clause-waits g c = c.loop-at.invariant.waits c.in-Some.at ((c.in-Some.ensures.taken c.in-Some.at).1 (inr refl))

pub remove_next-requires-clause-all : goal.remove_next-requires-clause-all
remove_next-requires-clause-all g c = λ i on. c.loop-at.invariant.waits i ((c.in-Some.ensures.taken i).1 (inl on))

pub loop-at-preserved : goal.loop-at-preserved
loop-at-preserved g c = record {
  removing = λ lower before. c.in_ok-remove_next.ensures.looked lower
      (todo_same c.args.self.now _ lower c.args.stratum c.loop-at.marks _ (λ i. Contains c.loop-at.pending.agenda i) (λ i. Contains c.take_least.new.self i ⊎
      (i ≡ c.in-Some.at)) c.in-Some.ensures.taken
      (c.loop-at.invariant.removing lower before));
  states = λ lower before. c.in_ok-remove_next.ensures.states lower
      (todo_same c.args.self.now _ lower c.args.stratum c.loop-at.marks _ (λ i. Contains c.loop-at.pending.agenda i) (λ i. Contains c.take_least.new.self i ⊎
      (i ≡ c.in-Some.at)) c.in-Some.ensures.taken
      (c.loop-at.invariant.removing lower before)) (c.loop-at.invariant.states lower before);
  paid = λ width give. (let a = (taken c.args.self.now width c.requires.ready c.args.stratum Unknown c.loop-at.marks c.in-Some.at c.loop-at.pending.agenda c.take_least.new.self (c.loop-at.invariant.waits c.in-Some.at ((c.in-Some.ensures.taken c.in-Some.at).1 (inr refl))).0 c.in-Some.ensures.taken c.in-Some.ensures.least) in let b = c.in_ok-remove_next.ensures.paid width give in let d = c.loop-at.invariant.paid width give in omega (arith, a, b, d));
  few = (let a = c.in_ok-remove_next.ensures.few in let b = c.loop-at.invariant.few in omega (arith, a, b));
  shows = c.in_ok-remove_next.ensures.shows;
  waits = c.in_ok-remove_next.ensures.all;
}

pub returns-clause-removed : goal.returns-clause-removed
returns-clause-removed g c = λ lower before.
    todo_same c.args.self.now _ lower c.args.stratum c.loop-at.marks _ (λ i. Contains c.loop-at.pending.agenda i) (λ i. ⊥)
    (none_left c.loop-at.pending.agenda (c.in_default.ensures.none refl)) (c.loop-at.invariant.removing lower before)

pub returns-clause-few : goal.returns-clause-few
returns-clause-few g c = let b = c.loop-at.invariant.few in omega (arith, b)

pub returns-clause-spent : goal.returns-clause-spent
returns-clause-spent g c = λ width give. let d = c.loop-at.invariant.paid width give in omega (arith, d)

pub returns-in_err-remove_next-clause-spent : goal.returns-in_err-remove_next-clause-spent
returns-in_err-remove_next-clause-spent g c = λ width give.
    let a = (taken c.args.self.now width c.requires.ready c.args.stratum Unknown c.loop-at.marks c.in-Some.at c.loop-at.pending.agenda c.take_least.new.self (c.loop-at.invariant.waits c.in-Some.at ((c.in-Some.ensures.taken c.in-Some.at).1 (inr refl))).0 c.in-Some.ensures.taken c.in-Some.ensures.least) in let b = c.remove_next.ensures.spent width give in let d = c.loop-at.invariant.paid width give in omega (arith, a, b, d)
