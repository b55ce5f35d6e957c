use Rattle.xs_pattern.proofs.TimesWay.{copies_is}
use Rattle.xs_pattern.proofs.unrolled.Unrolled.copies.Goals as goal

pub returns-in-One : goal.returns-in-One
returns-in-One c = copies_is c.args.self.now c.in-One.set c.args.number c.in-One.is
