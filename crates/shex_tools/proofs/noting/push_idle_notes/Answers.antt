use Rattle.shex_tools.proofs.Noted.{idle_noted}
use Rattle.shex_tools.proofs.noting.push_idle_notes.Goals as goal

pub returns : goal.returns
returns c = idle_noted c.args.setting.now.terms.now c.args.graph.now.triples _ c.args.setting.now.limit _ _ c.push_idle_lines.result c.push_idle_lines.ensures
