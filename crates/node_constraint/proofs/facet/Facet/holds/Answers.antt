use Rattle.std.proofs.Common.{ap, sym}
use Rattle.std.specs.Option.{option_copied}
use Rattle.std.specs.Str.{chars}
use Rattle.node_constraint.proofs.Told.{beside, without}
use Rattle.node_constraint.proofs.facet.Facet.holds.Goals as goal

pub returns-in-Some : goal.returns-in-Some
returns-in-Some c =
    beside c.args.self.now (chars c.args.text.now) c.in-Some.number.now (option_copied c.args.decimal) c.holds_beside.result (ap option_copied (sym c.in-Some.is)) c.holds_beside.ensures

pub returns-in-None : goal.returns-in-None
returns-in-None c =
    without c.args.self.now (chars c.args.text.now) (option_copied c.args.decimal) c.holds_without.result (ap option_copied (sym c.in-None.is)) c.holds_without.ensures
