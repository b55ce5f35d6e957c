use Rattle.std.proofs.Common.{rules, ◌∙◌, ◌∷◌, [], arith, ap, map, slice_get, subst}
use Rattle.std.proofs.lemmas.List.{length-append, nil_from_length}
use Rattle.lists.proofs.Members.{yields_on}
use Rattle.typing_refiner.specs.Filing.{IsFiled}
use Rattle.typing_refiner.proofs.Filed.{all_yielded, at_yielded, yielded_within}
use Rattle.typing_refiner.proofs.ground.Ground.file_all.Goals as goal

pub file-requires-clause-there : goal.file-requires-clause-there
file-requires-clause-there c =
    let w = yielded_within c.args.kinds.items c.loop-kind.yielded c.loop-kind.kind-iterator.rest.items c.next.new.self.rest.items c.in-Some.kind c.loop-kind.invariant.split c.in-Some.ensures.steps.0 in
    let i = c.loop-kind.invariant.count in let e = c.requires.each in omega (arith, w, i, e)

pub file-requires-clause-strata : goal.file-requires-clause-strata
file-requires-clause-strata c = λ i. let s = c.requires.strata i in let e = c.loop-kind.invariant.same in omega (arith, s, e)

pub file-requires-clause-few : goal.file-requires-clause-few
file-requires-clause-few c = c.loop-kind.invariant.few

pub loop-kind-preserved : goal.loop-kind-preserved
loop-kind-preserved c = record {
  split = yields_on c.args.kinds.items c.loop-kind.yielded c.loop-kind.kind-iterator.rest.items c.next.new.self.rest.items c.in-Some.kind c.loop-kind.invariant.split c.in-Some.ensures.steps.0;
  count = (let i = c.loop-kind.invariant.count in let l = length-append c.loop-kind.yielded (c.in-Some.kind ∷ []) in omega (arith, i, l));
  filed = c.in_ok-file.ensures.filed c.args.kinds.items
      (ap (slice_get c.args.kinds.items) c.loop-kind.invariant.count
      ∙ at_yielded c.args.kinds.items c.loop-kind.yielded c.loop-kind.kind-iterator.rest.items c.next.new.self.rest.items c.in-Some.kind c.loop-kind.invariant.split c.in-Some.ensures.steps.0)
      c.loop-kind.invariant.filed;
  few = c.in_ok-file.ensures.few;
  same = c.file.ensures.same ∙ c.loop-kind.invariant.same;
}

pub returns-clause-filed : goal.returns-clause-filed
returns-clause-filed c =
    subst (λ n. IsFiled c.args.self.now.terms.now c.args.self.now.strata.now c.args.self.now.table.now c.args.kinds.items n c.loop-kind.nodes.items (map (λ v. v.items) c.loop-kind.lists.items))
    (c.loop-kind.invariant.count
    ∙ all_yielded c.args.kinds.items c.loop-kind.yielded c.loop-kind.kind-iterator.rest.items c.loop-kind.invariant.split (nil_from_length c.loop-kind.kind-iterator.rest.items (search rules)))
    c.loop-kind.invariant.filed
