use Rattle.shard_checks.proofs.Leading.{are_read_so}
use Rattle.shard_checks.proofs.way_lines.predicates_read.Goals as goal

pub returns : goal.returns
returns c = λ s has.
    are_read_so s c.args.terms.now c.args.reading c.args.ways.now _ _ has c.in_ok-predicates.ensures c.in_ok-put_in_order.ensures.sorted c.in_ok-put_in_order.ensures.same
