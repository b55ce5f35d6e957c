use Rattle.lists.proofs.Distinct.{adds_item}
use Rattle.label_extents.proofs.Gathered.{same, same_decides}
use Rattle.label_extents.proofs.nodes.note.Goals as goal

pub returns : goal.returns
returns c = adds_item same same_decides c.args.nodes.now.keys c.args.node c.insert.new.self.keys c.in_ok-insert.ensures.keys
