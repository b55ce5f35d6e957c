use Rattle.std.proofs.lemmas.Result.{err_from_is_err_and}
use Rattle.shape_map.proofs.Chosen.{goes_on, refused_at, all_done}
use Rattle.shape_map.proofs.Resolved.{item_held}
use Rattle.lists.proofs.Members.{item_there}
use Rattle.shape_map.proofs.resolve.steps.Goals as goal

pub step-requires-clause-held : goal.step-requires-clause-held
step-requires-clause-held c =
    item_held c.args.terms.now c.args.items.now c.item-item.result (item_there c.args.items.now c.loop-item.item-index c.item-item.result c.loop-item-test.true c.item-item.is) c.requires.held

pub returns-in_err-step-clause-refused : goal.returns-in_err-step-clause-refused
returns-in_err-step-clause-refused c =
    let p = err_from_is_err_and c.from_residual.result c.from_residual.ensures.1 in
    rw (p.1, p.2) (refused_at c.args.schema.now c.args.graph.now.triples c.args.terms.now c.args.items.now _ c.loop-item.item-index c.item-item.result c.in_err-step.field-0.0 c.loop-item-test.true c.item-item.is c.loop-item.invariant.goes c.in_err-step.ensures)

pub loop-item-preserved : goal.loop-item-preserved
loop-item-preserved c = record {
  goes = goes_on c.args.schema.now c.args.graph.now.triples c.args.terms.now c.args.items.now _ _ c.loop-item.item-index c.item-item.result c.loop-item-test.true c.item-item.is c.loop-item.invariant.goes c.in_ok-step.ensures;
  few = c.in_ok-step.ensures.3;
}

pub returns-clause-found : goal.returns-clause-found
returns-clause-found c = all_done c.args.schema.now c.args.graph.now.triples c.args.terms.now c.args.items.now _ c.loop-item.item-index c.loop-item-test.false c.loop-item.invariant.goes
