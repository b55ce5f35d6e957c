use Rattle.lists.proofs.Distinct.{adds_item}
use Rattle.demand.proofs.SameShapes.{added_has, same_shape, shape_decides}
use Rattle.demand.proofs.links.add.Goals as goal

pub returns : goal.returns
returns c = added_has _ _ c.args.shape (adds_item same_shape shape_decides c.args.shapes.now.keys c.args.shape c.insert.new.self.keys c.in_ok-insert.ensures.keys)
