use Rattle.graph_index.proofs.Overlaid.{no_edits, none_edited}
use Rattle.graph_index.proofs.edited.EditedArcs.over.Goals as goal

pub invariant_of-result : goal.invariant_of-result
invariant_of-result c = no_edits c.args.sealed.end _ c.new.ensures.empty

pub returns-clause-rows : goal.returns-clause-rows
returns-clause-rows c = none_edited c.args.sealed.end c.args.sealed.rows.items _ c.new.ensures.empty
