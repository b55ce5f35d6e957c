use Rattle.std.proofs.Common.{◌∙◌, ap, sym, ◌++◌, false}
use Rattle.std.specs.Prelude.{replicate}
use Rattle.xs_pattern.specs.Way.{size}
use Rattle.xs_pattern.proofs.Marks.{blank_more}
use Rattle.xs_pattern.proofs.Ways.{is_then, is_either, on_ok}
use Rattle.xs_pattern.proofs.walk.+add_blank.Goals as goal
use Rattle.xs_pattern.proofs.TimesWay.{is_times, size_times}

pub returns-in_ok-add_blank-in-Then-2 : goal.returns-in_ok-add_blank-in-Then-2
returns-in_ok-add_blank-in-Then-2 t c =
    blank_more _ _ _ _ _ c.in_ok-add_blank-in-Then.ensures c.in_ok-add_blank-in-Then-2.ensures
    ∙ ap (λ w. c.args.marks.now.items ++ replicate (size w) false)
    (sym (is_then _ _ _ _ _ c.in-Then.is c.deref.ensures c.deref-in-Then.ensures))

pub returns-in_ok-add_blank-in-Either-2 : goal.returns-in_ok-add_blank-in-Either-2
returns-in_ok-add_blank-in-Either-2 t c =
    blank_more _ _ _ _ _ c.in_ok-add_blank-in-Either.ensures c.in_ok-add_blank-in-Either-2.ensures
    ∙ ap (λ w. c.args.marks.now.items ++ replicate (size w) false)
    (sym (is_either _ _ _ _ _ c.in-Either.is c.deref-in-Either.ensures c.deref-in-Either-2.ensures))

pub returns-in-Times : goal.returns-in-Times
returns-in-Times t c =
    on_ok c.add_blanks.result c.add_blanks.new.marks.items c.args.marks.now.items (replicate c.in-Times.count false) _
    (ap (λ n. replicate n false) (sym (ap size (is_times c.args.part.now c.in-Times.field-0 c.in-Times.count c.in-Times.is) ∙ size_times c.in-Times.field-0 c.in-Times.count))) c.add_blanks.ensures
