use Rattle.std.proofs.Common.{rules, ◌∙◌, ◌<◌, arith, ap, length, subst, sym}
use Rattle.std.proofs.lemmas.List.{nil_from_length}
use Rattle.std.specs.List.{AllByRecursion}
use Rattle.typing_refiner.specs.declared.removal.Removed.{Removed}
use Rattle.typing_refiner.specs.Filing.{put_gone}
use Rattle.typing_refiner.proofs.Said.{set_long}
use Rattle.typing_refiner.proofs.records.put_removed.Goals as goal

pub put_kind-requires : goal.put_kind-requires
put_kind-requires c =
    let t = (subst (AllByRecursion (λ (x : Removed). x.at < length c.args.kinds.now.items)) c.in-Some.ensures.steps.0 c.loop-removed.invariant.there).0 in
    let e = c.loop-removed.invariant.same in omega (arith, t, e)

pub loop-removed-preserved : goal.loop-removed-preserved
loop-removed-preserved c = record {
  put = ap (put_gone c.next.new.self.rest.items) c.put_kind.ensures ∙ (sym (ap (λ xs. put_gone xs c.loop-removed.kinds.items) c.in-Some.ensures.steps.0) ∙ c.loop-removed.invariant.put);
  there = (subst (AllByRecursion (λ (x : Removed). x.at < length c.args.kinds.now.items)) c.in-Some.ensures.steps.0 c.loop-removed.invariant.there).1;
  same = (ap length c.put_kind.ensures ∙ set_long c.loop-removed.kinds.items c.in-Some.removed.at _) ∙ c.loop-removed.invariant.same;
}

pub returns-clause-put : goal.returns-clause-put
returns-clause-put c = sym (ap (λ xs. put_gone xs c.loop-removed.kinds.items) (nil_from_length c.loop-removed.removed-iterator.rest.items (search rules))) ∙ c.loop-removed.invariant.put
