use Rattle.std.proofs.Common.{rules, ◌≡◌, ◌∙◌, ◌+◌, ◌++◌, ap, arith, sym, drop, false, ◌||◌}
use Rattle.std.specs.Prelude.{slice_index_or, vec_len}
use Rattle.xs_pattern.specs.Way.{ends, next, next_times, size, way_of}
use Rattle.xs_pattern.proofs.Marks.{handed_is, then_marks, then_ends, either_marks, either_ends, plus_marks}
use Rattle.xs_pattern.proofs.TimesWay.{is_times, next_is, size_times}
use Rattle.xs_pattern.proofs.Ways.{is_then, is_either, is_plus}
use Rattle.xs_pattern.proofs.walk.+advance.Goals as goal

pub returns-in_ok-second-in-Then-clause-marks : goal.returns-in_ok-second-in-Then-clause-marks
returns-in_ok-second-in-Then-clause-marks t c =
    then_marks c.args.edge _ _ _ _ c.args.marks.now _ _ c.in_ok-first-in-Then.ensures.counted _ _ _ c.args.enters _
    (is_then _ _ _ _ _ c.in-Then.is c.deref.ensures c.deref-in-Then.ensures)
    (handed_is _ _ _ c.args.enters _ _ c.hands_on.ensures c.in_ok-first-in-Then.ensures.ends c.in_ok-first-in-Then.ensures.passes)
    c.in_ok-first-in-Then.ensures.marks c.in_ok-second-in-Then.ensures.marks

pub returns-in_ok-second-in-Then-clause-ends : goal.returns-in_ok-second-in-Then-clause-ends
returns-in_ok-second-in-Then-clause-ends t c =
    then_ends c.args.edge (λ k. slice_index_or c.args.having.now k false) _ _ _ c.args.marks.now _ _ c.in_ok-first-in-Then.ensures.counted _ _ _ _
    (is_then _ _ _ _ _ c.in-Then.is c.deref.ensures c.deref-in-Then.ensures) (ap (λ x. x.ends) c.then.ensures)
    c.in_ok-first-in-Then.ensures.ends c.in_ok-second-in-Then.ensures.ends c.in_ok-second-in-Then.ensures.passes

pub returns-in_ok-second-in-Either-clause-marks : goal.returns-in_ok-second-in-Either-clause-marks
returns-in_ok-second-in-Either-clause-marks t c =
    either_marks c.args.edge _ _ _ _ c.args.marks.now _ _ c.in_ok-first-in-Either.ensures.counted _ _ _ c.args.enters
    (is_either _ _ _ _ _ c.in-Either.is c.deref-in-Either.ensures c.deref-in-Either-2.ensures)
    c.in_ok-first-in-Either.ensures.marks c.in_ok-second-in-Either.ensures.marks

pub returns-in_ok-second-in-Either-clause-ends : goal.returns-in_ok-second-in-Either-clause-ends
returns-in_ok-second-in-Either-clause-ends t c =
    either_ends c.args.edge (λ k. slice_index_or c.args.having.now k false) _ _ _ c.args.marks.now _ _ c.in_ok-first-in-Either.ensures.counted _ _ _
    (is_either _ _ _ _ _ c.in-Either.is c.deref-in-Either.ensures c.deref-in-Either-2.ensures) (ap (λ x. x.ends) c.or.ensures)
    c.in_ok-first-in-Either.ensures.ends c.in_ok-second-in-Either.ensures.ends

pub returns-in-Plus-clause-marks : goal.returns-in-Plus-clause-marks
returns-in-Plus-clause-marks t c =
    let marks = drop (vec_len c.args.behind.now) c.args.marks.now in
    plus_marks c.advance-in-Plus.result c.args.edge (λ k. slice_index_or c.args.having.now k false) _ _ marks
    c.advance-in-Plus.new.behind.items c.args.behind.now.items c.args.enters _
    (is_plus _ _ _ c.in-Plus.is c.deref-in-Plus-2.ensures)
    (c.reenters-again.ensures
    ∙ ap (λ v. c.args.enters || v) (c.exit_of-in-Plus.ensures.ends
    ∙ (ap (λ v. ends c.args.edge (way_of c.deref-in-Plus.result.now) (drop v c.args.marks.now)) c.len-from.ensures
    ∙ ap (λ v. ends c.args.edge (way_of v) marks) (c.deref-in-Plus.ensures ∙ sym c.deref-in-Plus-2.ensures))))
    c.advance-in-Plus.ensures.marks

pub advance_times-requires : goal.advance_times-requires
advance_times-requires t c =
    let e = ap size (is_times c.args.part.now c.in-Times.set c.in-Times.count c.in-Times.is) ∙ size_times c.in-Times.set c.in-Times.count in
    let r = c.requires in omega (arith, e, r)

pub exit_of_times-requires : goal.exit_of_times-requires
exit_of_times-requires t c =
    let e = ap size (is_times c.args.part.now c.in-Times.set c.in-Times.count c.in-Times.is) ∙ size_times c.in-Times.set c.in-Times.count in
    let from = c.len-from.ensures in let r = c.requires in omega (arith, e, from, r)

pub returns-in_ok-advance_times-in-Times-clause-marks : goal.returns-in_ok-advance_times-in-Times-clause-marks
returns-in_ok-advance_times-in-Times-clause-marks t c =
    let has : c.unwrap_or-has-in-Times.result ≡ slice_index_or c.args.having.now c.in-Times.set false = search rules in
    let marks = drop (vec_len c.args.behind.now) c.args.marks.now in
    c.in_ok-advance_times-in-Times.ensures.marks
    ∙ ap (λ xs. c.args.behind.now.items ++ xs) (ap (λ b. next_times b c.in-Times.count c.args.enters marks) has
    ∙ sym (next_is c.args.edge (λ k. slice_index_or c.args.having.now k false) c.in-Times.set c.in-Times.count c.args.enters marks)
    ∙ ap (λ w. next c.args.edge (λ k. slice_index_or c.args.having.now k false) w c.args.enters marks) (sym (is_times c.args.part.now c.in-Times.set c.in-Times.count c.in-Times.is)))

pub returns-in_ok-advance_times-in-Times-clause-counted : goal.returns-in_ok-advance_times-in-Times-clause-counted
returns-in_ok-advance_times-in-Times-clause-counted t c =
    c.in_ok-advance_times-in-Times.ensures.counted
    ∙ ap (λ n. vec_len c.args.behind.now + n) (sym (ap size (is_times c.args.part.now c.in-Times.set c.in-Times.count c.in-Times.is) ∙ size_times c.in-Times.set c.in-Times.count))
