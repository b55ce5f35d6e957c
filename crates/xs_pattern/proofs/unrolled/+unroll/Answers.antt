use Rattle.std.proofs.Common.{◌∙◌, ap, sym}
use Rattle.std.specs.Prelude.{Some}
use Rattle.xs_pattern.proofs.Ways.{never_repeated, way_nothing}
use Rattle.xs_pattern.proofs.unrolled.+unroll.Goals as goal

pub unroll_repeat-returns-in-Some-eq0-clause-way : goal.unroll_repeat-returns-in-Some-eq0-clause-way
unroll_repeat-returns-in-Some-eq0-clause-way t c =
    never_repeated _ c.args.least c.args.most _ _ (c.in-Some-eq0.is ∙ ap Some (sym c.in-Some-eq0.field-0-is ∙ c.in-Some-eq0.field-0-test)) way_nothing
    c.repeated.ensures
