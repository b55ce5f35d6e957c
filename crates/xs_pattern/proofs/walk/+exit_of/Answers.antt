use Rattle.std.proofs.Common.{◌∙◌, ◌+◌, arith, ap, drop, sym}
use Rattle.xs_pattern.specs.Way.{ends, passes, size}
use Rattle.xs_pattern.proofs.TimesWay.{is_times, size_times}
use Rattle.xs_pattern.proofs.walk.+exit_of.Goals as goal

pub exit_of_times-requires : goal.exit_of_times-requires
exit_of_times-requires t c =
    let e = ap size (is_times c.args.part.now c.in-Times.field-0 c.in-Times.count c.in-Times.is) ∙ size_times c.in-Times.field-0 c.in-Times.count in
    let r = c.requires in omega (arith, e, r)

pub returns-in-Times-clause-ends : goal.returns-in-Times-clause-ends
returns-in-Times-clause-ends t c =
    ap (λ x. x.ends) (c.exit_of_times.ensures c.args.edge c.in-Times.field-0)
    ∙ ap (λ w. ends c.args.edge w (drop c.args.from c.args.marks.now)) (sym (is_times c.args.part.now c.in-Times.field-0 c.in-Times.count c.in-Times.is))

pub returns-in-Times-clause-passes : goal.returns-in-Times-clause-passes
returns-in-Times-clause-passes t c =
    ap (λ x. x.passes) (c.exit_of_times.ensures c.args.edge c.in-Times.field-0) ∙ ap (passes c.args.edge) (sym (is_times c.args.part.now c.in-Times.field-0 c.in-Times.count c.in-Times.is))

pub returns-in-Times-clause-position : goal.returns-in-Times-clause-position
returns-in-Times-clause-position t c =
    ap (λ x. x.position) (c.exit_of_times.ensures c.args.edge c.in-Times.field-0)
    ∙ ap (λ n. c.args.from + n) (sym (ap size (is_times c.args.part.now c.in-Times.field-0 c.in-Times.count c.in-Times.is) ∙ size_times c.in-Times.field-0 c.in-Times.count))
