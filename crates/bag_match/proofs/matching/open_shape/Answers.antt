use Rattle.bag_match.proofs.Matched.{is_open, open_missing, open_shut, shape_missing, shape_read}
use Rattle.bag_match.proofs.matching.open_shape.Goals as goal

pub returns-in_default : goal.returns-in_default
returns-in_default c terms sealed =
    open_missing c.args.schema.now c.args.graph.now.triples c.args.pair (shape_missing c.args.schema.now c.args.pair.shape c.as_slice.result.now c.as_slice.ensures c.in_default.ensures.lookup.0)

pub returns-then-is_shut : goal.returns-then-is_shut
returns-then-is_shut c terms sealed =
    open_shut c.args.schema.now c.args.graph.now.triples c.args.pair c.in-Some.shape.now
    (shape_read c.args.schema.now c.args.pair.shape c.as_slice.result.now c.in-Some.shape.now c.as_slice.ensures c.in-Some.ensures.lookup.0 c.in-Some.ensures.lookup.1)
    ((c.is_shut.ensures terms sealed).0 c.if-is_shut.true)

pub returns : goal.returns
returns c terms sealed = (
  shape_read c.args.schema.now c.args.pair.shape c.as_slice.result.now c.in-Some.shape.now c.as_slice.ensures c.in-Some.ensures.lookup.0 c.in-Some.ensures.lookup.1,
  is_open c.args.graph.now.triples c.in-Some.shape.now c.args.pair.node c.is_shut.result (c.is_shut.ensures terms sealed) c.if-is_shut.false,
)
