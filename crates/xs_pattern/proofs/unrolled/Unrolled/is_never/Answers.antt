use Rattle.std.proofs.Common.{◌∙◌, ap, sym}
use Rattle.xs_pattern.specs.Unrolling.{is_never}
use Rattle.xs_pattern.proofs.TimesWay.{is_times, never_times}
use Rattle.xs_pattern.proofs.unrolled.Unrolled.is_never.Goals as goal

pub returns-in-Times : goal.returns-in-Times
returns-in-Times c = sym (ap is_never (is_times c.args.self.now c.in-Times.field-0 c.in-Times.field-1 c.in-Times.is) ∙ never_times c.in-Times.field-0 c.in-Times.field-1)
