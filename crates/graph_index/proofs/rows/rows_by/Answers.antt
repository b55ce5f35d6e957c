use Rattle.std.proofs.Common.{refl}
use Rattle.graph_index.proofs.Lent.{node_placed}
use Rattle.graph_index.proofs.rows.rows_by.Goals as goal

pub of_predicate-requires-clause-placed : goal.of_predicate-requires-clause-placed
of_predicate-requires-clause-placed c =
    node_placed c.args.arcs.now.end c.args.places.now c.args.places.now c.args.arcs.now.sealed c.sealed_rows.result.now c.args.n refl c.sealed_rows.ensures c.requires.placed
