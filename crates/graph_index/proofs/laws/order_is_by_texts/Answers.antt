use Rattle.graph_index.proofs.Growth.{by_texts}
use Rattle.graph_index.proofs.laws.order_is_by_texts.Goals as goal

pub returns : goal.returns
returns c = by_texts
