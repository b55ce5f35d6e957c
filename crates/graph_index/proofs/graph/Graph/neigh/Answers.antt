use Rattle.std.proofs.Common.{◌∙◌}
use Rattle.graph_index.proofs.Lent.{lent_neighbourhood, sealed_rows}
use Rattle.graph_index.proofs.graph.Graph.neigh.Goals as goal

pub returns : goal.returns
returns c = λ terms sealed. c.neigh.ensures
    ∙ lent_neighbourhood terms c.args.self.now c.lent_rows.result.now c.args.n (sealed_rows terms c.args.self.now c.lent_rows.result.now c.lent_rows.ensures sealed)
