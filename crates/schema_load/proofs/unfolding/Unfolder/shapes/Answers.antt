use Rattle.std.proofs.Common.{arith}
use Rattle.schema_load.specs.Building.{number_in}
use Rattle.schema_load.proofs.Shaped.{shapes_all, shapes_more}
use Rattle.schema_load.proofs.unfolding.Unfolder.shapes.Goals as goal

pub loop-place-preserved : goal.loop-place-preserved
loop-place-preserved c =
    shapes_more c.args.self.now.terms.now c.args.self.now.parts.now (number_in c.args.self.now.numbers.now) c.loop-place.place c.loop-place.shapes.items c.add_shape.new.shapes.items (let h = c.loop-place-test.true in omega arith) c.loop-place.invariant c.in_ok-add_shape.ensures

pub returns : goal.returns
returns c = shapes_all c.args.self.now.terms.now c.args.self.now.parts.now (number_in c.args.self.now.numbers.now) c.loop-place.place c.loop-place.shapes.items (let h = c.loop-place-test.false in omega arith) c.loop-place.invariant
