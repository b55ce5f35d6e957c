use Rattle.typing_refiner.proofs.Tallies.{table_next}
use Rattle.typing_refiner.proofs.triple_table.table_of.Goals as goal

pub loop-i-preserved : goal.loop-i-preserved
loop-i-preserved c =
    table_next c.args.triples.now c.loop-i.i c.at.result c.loop-i.table c.put.new.self c.in_ok-put.field-0 c.if-not-branch.false c.in_ok-put.ensures c.loop-i.invariant c.at.ensures.at
