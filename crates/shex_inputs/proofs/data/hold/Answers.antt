use Rattle.shex_inputs.proofs.Counted.{of_table}
use Rattle.shex_inputs.proofs.data.hold.Goals as goal

pub returns-clause-of_table : goal.returns-clause-of_table
returns-clause-of_table c =
    let (triples, spelled, loads) = c.in_ok-graph.ensures.read in
    of_table c.args.loaded.terms c.read_data.new.terms c.in_ok-graph.graph.triples triples loads
