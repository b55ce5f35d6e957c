use Rattle.std.proofs.Common.{ap, sym}
use Rattle.std.specs.Prelude.{Some}
use Rattle.demand.specs.Links.{own_of}
use Rattle.demand.proofs.Listed.{has_same, one_more}
use Rattle.demand.proofs.links.add_own.Goals as goal

pub returns-in_ok-add-in-Shape : goal.returns-in_ok-add-in-Shape
returns-in_ok-add-in-Shape c =
    has_same c.args.shapes.now.keys _ _ c.add.new.shapes.keys (ap (λ x. own_of (Some x)) (sym c.in-Shape.is))
    (λ q. one_more c.args.shapes.now.keys c.add.new.shapes.keys c.in-Shape.shape q (c.in_ok-add-in-Shape.ensures q))
