use Rattle.schema_places.proofs.Looking.{of_answer}
use Rattle.schema_places.proofs.things.look.Goals as goal

pub returns : goal.returns
returns c = of_answer c.args.base.now c.args.bytes.now c.args.thing c.in-Err.met c.in-Err.ensures.refused c.told_by.result c.told_by.ensures.met c.told_by.ensures.apart
