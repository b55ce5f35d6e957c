use Rattle.std.proofs.Common.{sym, ◌∙◌, true, string_bytes}
use Rattle.std.proofs.lemmas.Result.{err_from_is_err_and}
use Rattle.rdf_cursor.proofs.Loops.{loop_goes, loop_ends}
use Rattle.rdf_cursor.specs.Cursors.{ahead}
use Rattle.turtle_reader.specs.Reading.{object}
use Rattle.turtle_reader.specs.Objects.{term_of}
use Rattle.turtle_reader.specs.States.{scope_of, anonymous}
use Rattle.term_tokens.proofs.Failing.{fails_loop}
use Rattle.turtle_reader.proofs.Alone.{one_alone}
use Rattle.turtle_reader.proofs.Places.{consumes_comma, consumes_semicolon, consumes_next_member, local_object, consumes_object}
use Rattle.turtle_reader.proofs.grammar.+grammar.Goals as goal

pub commas-loop-c-smaller : goal.commas-loop-c-smaller
commas-loop-c-smaller t c = consumes_comma true (object true c.args.depth) (local_object true c.args.depth) (consumes_object true c.args.depth)
    (term_of c.args.subject.now) c.args.predicate.now (scope_of c.loop-c.state) (ahead c.loop-c.c) (scope_of c.comma.new.state) (ahead c.comma.new.c) c.in_ok-comma.ensures.gives

pub commas-loop-c-preserved : goal.commas-loop-c-preserved
commas-loop-c-preserved t c =
    (loop_goes _ _ (consumes_comma true (object true c.args.depth) (local_object true c.args.depth) (consumes_object true c.args.depth) (term_of c.args.subject.now) c.args.predicate.now) _ _ _ _ _ (sym c.is_at.ensures ∙ c.loop-c-test.true) c.in_ok-comma.ensures.gives c.loop-c.invariant.0, c.in_ok-comma.ensures.source ∙ c.loop-c.invariant.1)

pub commas-returns-in_err-comma-clause-gives : goal.commas-returns-in_err-comma-clause-gives
commas-returns-in_err-comma-clause-gives t c =
    let p = err_from_is_err_and c.from_residual.result c.from_residual.ensures.1 in
    rw (p.1, p.2) (fails_loop _ _ (consumes_comma true (object true c.args.depth) (local_object true c.args.depth) (consumes_object true c.args.depth) (term_of c.args.subject.now) c.args.predicate.now) c.in_err-comma.field-0.0 _ _ _ _ (sym c.is_at.ensures ∙ c.loop-c-test.true) c.in_err-comma.ensures.gives c.loop-c.invariant.0)

pub commas-returns-in_err-comma-clause-source : goal.commas-returns-in_err-comma-clause-source
commas-returns-in_err-comma-clause-source t c = c.in_err-comma.ensures.source ∙ c.loop-c.invariant.1

pub commas-returns-clause-gives : goal.commas-returns-clause-gives
commas-returns-clause-gives t c =
    loop_ends _ _ (consumes_comma true (object true c.args.depth) (local_object true c.args.depth) (consumes_object true c.args.depth) (term_of c.args.subject.now) c.args.predicate.now) _ _ _ (sym c.is_at.ensures ∙ c.loop-c-test.false) c.loop-c.invariant.0

pub semicolons-loop-c-smaller : goal.semicolons-loop-c-smaller
semicolons-loop-c-smaller t c = consumes_semicolon true (object true c.args.depth) (local_object true c.args.depth) (consumes_object true c.args.depth)
    (term_of c.args.subject.now) (scope_of c.loop-c.state) (ahead c.loop-c.c) (scope_of c.semicolon.new.state) (ahead c.semicolon.new.c) c.in_ok-semicolon.ensures.gives

pub semicolons-loop-c-preserved : goal.semicolons-loop-c-preserved
semicolons-loop-c-preserved t c = (
  loop_goes _ _ (consumes_semicolon true (object true c.args.depth) (local_object true c.args.depth) (consumes_object true c.args.depth) (term_of c.args.subject.now)) _ _ _ _ _ (sym c.is_at.ensures
      ∙ c.loop-c-test.true) c.in_ok-semicolon.ensures.gives c.loop-c.invariant.0,
  c.in_ok-semicolon.ensures.source ∙ c.loop-c.invariant.1,
)

pub semicolons-returns-in_err-semicolon-clause-gives : goal.semicolons-returns-in_err-semicolon-clause-gives
semicolons-returns-in_err-semicolon-clause-gives t c =
    let p = err_from_is_err_and c.from_residual.result c.from_residual.ensures.1 in
    rw (p.1, p.2) (fails_loop _ _ (consumes_semicolon true (object true c.args.depth) (local_object true c.args.depth) (consumes_object true c.args.depth) (term_of c.args.subject.now)) c.in_err-semicolon.field-0.0 _ _ _ _ (sym c.is_at.ensures ∙ c.loop-c-test.true) c.in_err-semicolon.ensures.gives c.loop-c.invariant.0)

pub semicolons-returns-in_err-semicolon-clause-source : goal.semicolons-returns-in_err-semicolon-clause-source
semicolons-returns-in_err-semicolon-clause-source t c = c.in_err-semicolon.ensures.source ∙ c.loop-c.invariant.1

pub semicolons-returns-clause-gives : goal.semicolons-returns-clause-gives
semicolons-returns-clause-gives t c =
    loop_ends _ _ (consumes_semicolon true (object true c.args.depth) (local_object true c.args.depth) (consumes_object true c.args.depth) (term_of c.args.subject.now)) _ _ _ (sym c.is_at.ensures
    ∙ c.loop-c-test.false) c.loop-c.invariant.0

pub members-loop-c-smaller : goal.members-loop-c-smaller
members-loop-c-smaller t c = consumes_next_member true (object true c.args.depth) (local_object true c.args.depth) (consumes_object true c.args.depth)
    (anonymous c.loop-c.last, scope_of c.loop-c.state) (ahead c.loop-c.c) (anonymous c.in_ok-last.last, scope_of c.next_member.new.state) (ahead c.next_member.new.c) c.in_ok-last.ensures.gives

pub members-loop-c-preserved : goal.members-loop-c-preserved
members-loop-c-preserved t c = (
  loop_goes _ _ (consumes_next_member true (object true c.args.depth) (local_object true c.args.depth) (consumes_object true c.args.depth)) _ _ _ _ _ (sym c.at_member.ensures
      ∙ c.loop-c-test.true) c.in_ok-last.ensures.gives c.loop-c.invariant.0,
  c.in_ok-last.ensures.source ∙ c.loop-c.invariant.1,
)

pub members-returns-in_err-last-clause-gives : goal.members-returns-in_err-last-clause-gives
members-returns-in_err-last-clause-gives t c =
    let p = err_from_is_err_and c.from_residual.result c.from_residual.ensures.1 in
    rw (p.1, p.2) (fails_loop _ _ (consumes_next_member true (object true c.args.depth) (local_object true c.args.depth) (consumes_object true c.args.depth)) c.in_err-last.field-0.0 _ _ _ _ (sym c.at_member.ensures ∙ c.loop-c-test.true) c.in_err-last.ensures.gives c.loop-c.invariant.0)

pub members-returns-clause-gives : goal.members-returns-clause-gives
members-returns-clause-gives t c =
    loop_ends _ _ (consumes_next_member true (object true c.args.depth) (local_object true c.args.depth) (consumes_object true c.args.depth)) _ _ _ (sym c.at_member.ensures
    ∙ c.loop-c-test.false) c.loop-c.invariant.0

pub objects-returns-in_ok-add_alone-clause-gives : goal.objects-returns-in_ok-add_alone-clause-gives
objects-returns-in_ok-add_alone-clause-gives t c =
    rw c.in_ok-add_alone.ensures (one_alone true c.args.depth (term_of c.args.subject.now) (string_bytes c.args.predicate) (scope_of c.args.state.now) _ _ (ahead c.args.c.now) _ c.in_ok-first.ensures.gives (sym c.is_at.ensures ∙ c.if-is_at.false))
