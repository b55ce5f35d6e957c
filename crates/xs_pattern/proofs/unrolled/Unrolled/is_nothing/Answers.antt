use Rattle.std.proofs.Common.{◌∙◌, ap, sym}
use Rattle.xs_pattern.specs.Unrolling.{is_nothing}
use Rattle.xs_pattern.proofs.TimesWay.{is_times, nothing_times}
use Rattle.xs_pattern.proofs.unrolled.Unrolled.is_nothing.Goals as goal

pub returns-in-Times : goal.returns-in-Times
returns-in-Times c = nothing_times c.in-Times.field-0 c.in-Times.count ∙ ap is_nothing (sym (is_times c.args.self.now c.in-Times.field-0 c.in-Times.count c.in-Times.is))
