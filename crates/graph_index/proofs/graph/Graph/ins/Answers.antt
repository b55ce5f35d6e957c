use Rattle.std.proofs.Common.{◌∙◌}
use Rattle.graph_index.proofs.Lent.{sealed_rows}
use Rattle.graph_index.proofs.graph.Graph.ins.Goals as goal

pub returns : goal.returns
returns c = λ terms sealed. c.ins.ensures ∙ (sealed_rows terms c.args.self.now c.lent_rows.result.now c.lent_rows.ensures sealed).inward c.args.n
