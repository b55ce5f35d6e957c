use Rattle.std.proofs.Common.{◌≡◌, ◌⊎◌, inl, inr, refl, arith, Contains}
use Rattle.typing_refiner.proofs.Confirmations.{started, todo_same, waiting}
use Rattle.typing_refiner.proofs.Removals.{none_left}
use Rattle.schema_tree.specs.declared.verdicts.Verdict.TheVariants.{Yes}
use Rattle.typing_refiner.proofs.Spending.{opened, taken}
use Rattle.typing_refiner.proofs.Steps.{within}
use Rattle.typing_refiner.proofs.ground.Ground.confirm.Goals as goal

pub raise-requires : goal.raise-requires
raise-requires g c = record {
  there = λ i m. let w = within c.args.self.now c.args.stratum i ((c.requires.members i).0 m) in let e = c.requires.marked in omega arith;
  none = c.new-agenda.ensures;
}

pub loop-at-init : goal.loop-at-init
loop-at-init g c = record {
  confirming = λ lower gone low r. started c.args.self.now c.requires.ready _ lower c.args.stratum c.args.marks.now c.raise.new.marks gone c.args.members.now c.raise.new.agenda
      c.requires.members c.in_ok-raise.ensures.raised c.in_ok-raise.ensures.put low r;
  paid = λ width give. (let e = opened c.args.self.now width c.args.stratum Yes c.raise.new.marks c.raise.new.agenda in omega (arith, e));
  waits = waiting c.args.self.now c.args.stratum c.args.marks.now c.raise.new.marks c.args.members.now c.raise.new.agenda c.requires.members c.in_ok-raise.ensures.raised c.in_ok-raise.ensures.put;
}

pub confirm_next-requires-clause-there : goal.confirm_next-requires-clause-there
confirm_next-requires-clause-there g c =
    within c.args.self.now c.args.stratum c.in-Some.at (c.loop-at.invariant.waits c.in-Some.at ((c.in-Some.ensures.taken c.in-Some.at).1 (inr refl))).0

pub confirm_next-requires-clause-waits : goal.confirm_next-requires-clause-waits
confirm_next-requires-clause-waits g c = c.loop-at.invariant.waits c.in-Some.at ((c.in-Some.ensures.taken c.in-Some.at).1 (inr refl))

pub confirm_next-requires-clause-all : goal.confirm_next-requires-clause-all
confirm_next-requires-clause-all g c = λ i on. c.loop-at.invariant.waits i ((c.in-Some.ensures.taken i).1 (inl on))

pub loop-at-preserved : goal.loop-at-preserved
loop-at-preserved g c = record {
  confirming = λ lower gone low r. c.in_ok-confirm_next.ensures.looked lower gone
      (todo_same c.args.self.now _ lower c.args.stratum c.loop-at.marks gone (λ i. Contains c.loop-at.agenda i) (λ i. Contains c.take_least.new.self i ⊎ (i ≡ c.in-Some.at)) c.in-Some.ensures.taken
      (c.loop-at.invariant.confirming lower gone low r));
  paid = λ width give. (let a = (taken c.args.self.now width c.requires.ready c.args.stratum Yes c.loop-at.marks c.in-Some.at c.loop-at.agenda c.take_least.new.self (c.loop-at.invariant.waits c.in-Some.at ((c.in-Some.ensures.taken c.in-Some.at).1 (inr refl))).0 c.in-Some.ensures.taken c.in-Some.ensures.least) in let b = c.in_ok-confirm_next.ensures.paid width give in let d = c.loop-at.invariant.paid width give in omega (arith, a, b, d));
  waits = c.in_ok-confirm_next.ensures.all;
}

pub returns-clause-confirmed : goal.returns-clause-confirmed
returns-clause-confirmed g c = λ lower gone low r.
    todo_same c.args.self.now _ lower c.args.stratum c.loop-at.marks gone (λ i. Contains c.loop-at.agenda i) (λ i. ⊥) (none_left c.loop-at.agenda (c.in_default.ensures.none refl))
    (c.loop-at.invariant.confirming lower gone low r)

pub returns-clause-spent : goal.returns-clause-spent
returns-clause-spent g c = λ width give. let d = c.loop-at.invariant.paid width give in omega (arith, d)

pub returns-in_err-confirm_next-clause-spent : goal.returns-in_err-confirm_next-clause-spent
returns-in_err-confirm_next-clause-spent g c = λ width give.
    let a = (taken c.args.self.now width c.requires.ready c.args.stratum Yes c.loop-at.marks c.in-Some.at c.loop-at.agenda c.take_least.new.self (c.loop-at.invariant.waits c.in-Some.at ((c.in-Some.ensures.taken c.in-Some.at).1 (inr refl))).0 c.in-Some.ensures.taken c.in-Some.ensures.least) in let b = c.confirm_next.ensures.spent width give in let d = c.loop-at.invariant.paid width give in omega (arith, a, b, d)
