use Rattle.std.proofs.Common.{◌∙◌, ◌++◌, ap, inl, refl, sym, Err}
use Rattle.lists.specs.Additions.{none}
use Rattle.lists.proofs.Additions.{all_grow, grown_same, one_more}
use Rattle.shape_map.proofs.Ordered.{overfull}
use Rattle.lists.proofs.Members.{yields_on}
use Rattle.shape_map.proofs.nodes.put_all.Goals as goal

pub loop-node-init : goal.loop-node-init
loop-node-init c = (sym c.into_iter-node-iterator.ensures.into_iter_gives.0, none)

pub loop-node-preserved : goal.loop-node-preserved
loop-node-preserved c = (
  yields_on _ c.loop-node.yielded _ _ c.in-Some.node c.loop-node.invariant.0 c.in-Some.ensures.steps.0,
  one_more _ _ _ c.loop-node.yielded c.in-Some.node c.loop-node.invariant.1 c.in-Ok.ensures.added,
)

pub returns-in-Err-Full-clause-full : goal.returns-in-Err-Full-clause-full
returns-in-Err-Full-clause-full c = inl (
  refl,
  overfull c.args.nodes.items c.args.terms.now c.loop-node.terms c.loop-node.yielded c.next.new.self.rest.items c.in-Some.node (c.loop-node.invariant.0
      ∙ ap (λ v. c.loop-node.yielded ++ v) c.in-Some.ensures.steps.0) c.loop-node.invariant.1
      (c.in-Err-Full.ensures.full.0 (ap Err c.in-Err-Full.field-0-is)),
)

pub returns-in-Err-Full-clause-grown : goal.returns-in-Err-Full-clause-grown
returns-in-Err-Full-clause-grown c = grown_same c.args.terms.now c.loop-node.terms c.put.new.self c.loop-node.yielded c.loop-node.invariant.1 c.in-Err-Full.ensures.err

pub returns-in-Err-Memory-clause-grown : goal.returns-in-Err-Memory-clause-grown
returns-in-Err-Memory-clause-grown c = grown_same c.args.terms.now c.loop-node.terms c.put.new.self c.loop-node.yielded c.loop-node.invariant.1 c.in-Err-Memory.ensures.err

pub returns-clause-grown : goal.returns-clause-grown
returns-clause-grown c = all_grow c.args.terms.now c.loop-node.terms c.loop-node.yielded c.loop-node.invariant.1
