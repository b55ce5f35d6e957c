use Rattle.std.proofs.Common.{rules, ◌∷◌, [], arith, map}
use Rattle.std.proofs.lemmas.List.{length-append, nil_from_length}
use Rattle.lists.proofs.Members.{yields_on}
use Rattle.typing_refiner.specs.Filing.{sections_from}
use Rattle.typing_refiner.proofs.Filed.{made_last, made_next, yielded_within}
use Rattle.typing_refiner.proofs.records.sections_of.Goals as goal

pub overflow_cast-stratum : goal.overflow_cast-stratum
overflow_cast-stratum c =
    let w = yielded_within c.args.lists.items c.loop-records.yielded c.loop-records.records-iterator.rest.items c.next.new.self.rest.items c.in-Some.records c.loop-records.invariant.split c.in-Some.ensures.steps.0 in
    let i = c.loop-records.invariant.count in let f = c.requires in omega (arith, w, i, f)

pub loop-records-preserved : goal.loop-records-preserved
loop-records-preserved c = record {
  split = yields_on c.args.lists.items c.loop-records.yielded c.loop-records.records-iterator.rest.items c.next.new.self.rest.items c.in-Some.records c.loop-records.invariant.split c.in-Some.ensures.steps.0;
  count = (let i = c.loop-records.invariant.count in let l = length-append c.loop-records.yielded (c.in-Some.records ∷ []) in omega (arith, i, l));
  made = made_next (λ v. v.items) (sections_from 0 (map (λ v. v.items) c.args.lists.items)) c.loop-records.sections.items c.add_section.new.sections.items c.loop-records.stratum
      c.loop-records.records-iterator.rest.items c.next.new.self.rest.items c.in-Some.records c.in-Some.ensures.steps.0 c.loop-records.invariant.made c.in_ok-add_section.ensures;
}

pub returns : goal.returns
returns c = made_last (λ v. v.items) (sections_from 0 (map (λ v. v.items) c.args.lists.items)) c.loop-records.sections.items c.loop-records.stratum c.loop-records.records-iterator.rest.items
    (nil_from_length c.loop-records.records-iterator.rest.items (search rules)) c.loop-records.invariant.made
