use Rattle.std.proofs.Common.{◌∙◌, ap, sym, replicate}
use Rattle.xs_pattern.specs.Marked.{set_numbers}
use Rattle.xs_pattern.proofs.Stepped.{sets_more}
use Rattle.xs_pattern.proofs.TimesWay.{is_times, sets_times}
use Rattle.xs_pattern.proofs.Ways.{is_then, is_either, on_ok}
use Rattle.xs_pattern.proofs.words.+add_numbers.Goals as goal

pub returns-in-Times : goal.returns-in-Times
returns-in-Times t c =
    on_ok c.add_times.result c.add_times.new.sets.items c.args.numbers.now.items (replicate c.in-Times.count c.in-Times.set) _
    (sym (ap set_numbers (is_times c.args.part.now c.in-Times.set c.in-Times.count c.in-Times.is)
    ∙ sets_times c.in-Times.set c.in-Times.count)) c.add_times.ensures

pub returns-in_ok-add_numbers-in-Then-2 : goal.returns-in_ok-add_numbers-in-Then-2
returns-in_ok-add_numbers-in-Then-2 t c =
    sets_more c.args.numbers.now.items _ _ _ _ _
    (ap set_numbers (sym (is_then _ _ _ _ _ c.in-Then.is c.deref.ensures c.deref-in-Then.ensures)))
    c.in_ok-add_numbers-in-Then.ensures c.in_ok-add_numbers-in-Then-2.ensures

pub returns-in_ok-add_numbers-in-Either-2 : goal.returns-in_ok-add_numbers-in-Either-2
returns-in_ok-add_numbers-in-Either-2 t c =
    sets_more c.args.numbers.now.items _ _ _ _ _
    (ap set_numbers (sym (is_either _ _ _ _ _ c.in-Either.is c.deref-in-Either.ensures c.deref-in-Either-2.ensures)))
    c.in_ok-add_numbers-in-Either.ensures c.in_ok-add_numbers-in-Either-2.ensures
