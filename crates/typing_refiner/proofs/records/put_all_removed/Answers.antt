use Rattle.std.proofs.Common.{rules, ◌∙◌, ◌<◌, ap, length, map, subst, sym}
use Rattle.std.proofs.lemmas.List.{nil_from_length}
use Rattle.std.specs.List.{AllByRecursion}
use Rattle.typing_refiner.specs.declared.removal.Removed.{Removed}
use Rattle.typing_refiner.specs.Filing.{put_strata}
use Rattle.typing_refiner.proofs.records.put_all_removed.Goals as goal

pub put_removed-requires : goal.put_removed-requires
put_removed-requires c = record {
  there =
      subst (λ n. AllByRecursion (λ (x : Removed). x.at < n) c.in-Some.gone.items) (sym c.loop-gone.invariant.same)
      (subst (λ vs. AllByRecursion (λ v. AllByRecursion (λ (x : Removed). x.at < length c.args.kinds.now.items) v.items) vs) c.in-Some.ensures.steps.0 c.loop-gone.invariant.there).0;
}

pub loop-gone-preserved : goal.loop-gone-preserved
loop-gone-preserved c = record {
  put = ap (put_strata (map (λ v. v.items) c.next.new.self.rest.items)) c.put_removed.ensures.put
      ∙ (sym (ap (λ vs. put_strata (map (λ v. v.items) vs) c.loop-gone.kinds.items) c.in-Some.ensures.steps.0) ∙ c.loop-gone.invariant.put);
  there = (subst (λ vs. AllByRecursion (λ v. AllByRecursion (λ (x : Removed). x.at < length c.args.kinds.now.items) v.items) vs) c.in-Some.ensures.steps.0 c.loop-gone.invariant.there).1;
  same = c.put_removed.ensures.same ∙ c.loop-gone.invariant.same;
}

pub returns-clause-put : goal.returns-clause-put
returns-clause-put c = sym (ap (λ vs. put_strata (map (λ v. v.items) vs) c.loop-gone.kinds.items) (nil_from_length c.loop-gone.gone-iterator.rest.items (search rules))) ∙ c.loop-gone.invariant.put
