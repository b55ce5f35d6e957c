use Rattle.std.proofs.Common.{◌∙◌, Err, ap}
use Rattle.label_extents.proofs.Rooted.{are_demanded, not_too_many, too_many}
use Rattle.label_extents.proofs.roots.demanded.Goals as goal

pub returns-in-Ok-clause-demanded : goal.returns-in-Ok-clause-demanded
returns-in-Ok-clause-demanded c =
    are_demanded c.args.schema.now c.args.terms.now c.args.graph.now.triples c.args.nodes.now c.requires.nodes c.as_slice.result.now (c.as_slice.ensures.value
    ∙ c.in_ok-exprs.ensures) c.in-Ok.pairs c.in-Ok.ensures.asked

pub returns-in-Ok-clause-few : goal.returns-in-Ok-clause-few
returns-in-Ok-clause-few c =
    not_too_many c.args.schema.now c.args.terms.now c.args.graph.now.triples c.args.nodes.now c.requires.nodes c.as_slice.result.now (c.as_slice.ensures.value
    ∙ c.in_ok-exprs.ensures) c.in-Ok.ensures.few

pub returns-in-Err-Pairs-clause-refused : goal.returns-in-Err-Pairs-clause-refused
returns-in-Err-Pairs-clause-refused c =
    too_many c.args.schema.now c.args.terms.now c.args.graph.now.triples c.args.nodes.now c.requires.nodes c.as_slice.result.now (c.as_slice.ensures.value ∙ c.in_ok-exprs.ensures)
    (c.in-Err-Pairs.ensures.many (ap (λ e. Err e) c.in-Err-Pairs.field-0-is))
