use Rattle.std.proofs.Common.{rules, ◌∙◌, ◌<◌, arith, ap, length, subst, sym}
use Rattle.std.proofs.lemmas.List.{nil_from_length}
use Rattle.std.specs.List.{AllByRecursion}
use Rattle.typing_refiner.specs.declared.strata_loop.Confirmed.{Confirmed}
use Rattle.typing_refiner.specs.Filing.{put_confirmed}
use Rattle.typing_refiner.proofs.Said.{set_long}
use Rattle.typing_refiner.proofs.records.put_all_confirmed.Goals as goal

pub put_kind-requires : goal.put_kind-requires
put_kind-requires c =
    let t = (subst (AllByRecursion (λ (x : Confirmed). x.at < length c.args.kinds.now.items)) c.in-Some.ensures.steps.0 c.loop-confirmed.invariant.there).0 in
    let e = c.loop-confirmed.invariant.same in omega (arith, t, e)

pub loop-confirmed-preserved : goal.loop-confirmed-preserved
loop-confirmed-preserved c = record {
  put = ap (put_confirmed c.next.new.self.rest.items) c.put_kind.ensures ∙ (sym (ap (λ xs. put_confirmed xs c.loop-confirmed.kinds.items) c.in-Some.ensures.steps.0) ∙ c.loop-confirmed.invariant.put);
  there = (subst (AllByRecursion (λ (x : Confirmed). x.at < length c.args.kinds.now.items)) c.in-Some.ensures.steps.0 c.loop-confirmed.invariant.there).1;
  same = (ap length c.put_kind.ensures ∙ set_long c.loop-confirmed.kinds.items c.in-Some.confirmed.at _) ∙ c.loop-confirmed.invariant.same;
}

pub returns-clause-put : goal.returns-clause-put
returns-clause-put c = sym (ap (λ xs. put_confirmed xs c.loop-confirmed.kinds.items) (nil_from_length c.loop-confirmed.confirmed-iterator.rest.items (search rules))) ∙ c.loop-confirmed.invariant.put
