use Rattle.std.proofs.Common.{true, sym, ◌∙◌, map}
use Rattle.std.proofs.lemmas.Result.{err_from_is_err_and}
use Rattle.rdf_cursor.proofs.Loops.{loop_goes, loop_ends}
use Rattle.schema_documents.specs.Tree.{expr_of, triple_of}
use Rattle.rdf_cursor.specs.Cursors.{ahead}
use Rattle.term_tokens.specs.Scopes.{scope_in}
use Rattle.shexc_reader.specs.Reading.{level}
use Rattle.shexc_constraints.proofs.Failing.{fails_loop}
use Rattle.shexc_reader.proofs.Places.{consumes_and_behind, consumes_or_behind, consumes_semicolon, consumes_bar}
use Rattle.shexc_reader.proofs.Places.{local_level}
use Rattle.shexc_reader.proofs.grammar.+grammar.Goals as goal

pub ands-loop-c-smaller : goal.ands-loop-c-smaller
ands-loop-c-smaller t c = consumes_and_behind true (scope_in c.args.names.now) c.args.depth (level true (scope_in c.args.names.now) c.args.depth)
    (local_level true (scope_in c.args.names.now) c.args.depth) c.args.whole (map expr_of c.loop-c.xs.items, c.loop-c.flag) (ahead c.loop-c.c)
    (map expr_of c.and_behind.new.xs.items, c.in_ok-flag.flag) (ahead c.and_behind.new.c) c.in_ok-flag.ensures.gives

pub ands-loop-c-preserved : goal.ands-loop-c-preserved
ands-loop-c-preserved t c = (
  loop_goes _ _ (consumes_and_behind true (scope_in c.args.names.now) c.args.depth (level true (scope_in c.args.names.now) c.args.depth) (local_level true (scope_in c.args.names.now) c.args.depth) c.args.whole) _ _ _ _ _ (sym c.is_at.ensures ∙ c.loop-c-test.true) c.in_ok-flag.ensures.gives c.loop-c.invariant.0,
  c.in_ok-flag.ensures.source ∙ c.loop-c.invariant.1,
)

pub ands-returns-in_err-flag-clause-gives : goal.ands-returns-in_err-flag-clause-gives
ands-returns-in_err-flag-clause-gives t c =
    let p = err_from_is_err_and c.from_residual.result c.from_residual.ensures.1 in
    rw (p.1, p.2) (fails_loop _ _ (consumes_and_behind true (scope_in c.args.names.now) c.args.depth (level true (scope_in c.args.names.now) c.args.depth) (local_level true (scope_in c.args.names.now) c.args.depth) c.args.whole) c.in_err-flag.field-0.0 _ _ _ _ (sym c.is_at.ensures ∙ c.loop-c-test.true) c.in_err-flag.ensures.gives c.loop-c.invariant.0)

pub ands-returns-clause-gives : goal.ands-returns-clause-gives
ands-returns-clause-gives t c =
    loop_ends _ _ (consumes_and_behind true (scope_in c.args.names.now) c.args.depth (level true (scope_in c.args.names.now) c.args.depth) (local_level true (scope_in c.args.names.now) c.args.depth) c.args.whole) _ _ _ (sym c.is_at.ensures ∙ c.loop-c-test.false) c.loop-c.invariant.0

pub ors-loop-c-smaller : goal.ors-loop-c-smaller
ors-loop-c-smaller t c = consumes_or_behind true (scope_in c.args.names.now) c.args.depth (level true (scope_in c.args.names.now) c.args.depth)
    (local_level true (scope_in c.args.names.now) c.args.depth) c.args.whole (map expr_of c.loop-c.xs.items, c.loop-c.flag) (ahead c.loop-c.c)
    (map expr_of c.or_behind.new.xs.items, c.in_ok-flag.flag) (ahead c.or_behind.new.c) c.in_ok-flag.ensures.gives

pub ors-loop-c-preserved : goal.ors-loop-c-preserved
ors-loop-c-preserved t c = (
  loop_goes _ _ (consumes_or_behind true (scope_in c.args.names.now) c.args.depth (level true (scope_in c.args.names.now) c.args.depth) (local_level true (scope_in c.args.names.now) c.args.depth) c.args.whole) _ _ _ _ _ (sym c.is_at.ensures ∙ c.loop-c-test.true) c.in_ok-flag.ensures.gives c.loop-c.invariant.0,
  c.in_ok-flag.ensures.source ∙ c.loop-c.invariant.1,
)

pub ors-returns-in_err-flag-clause-gives : goal.ors-returns-in_err-flag-clause-gives
ors-returns-in_err-flag-clause-gives t c =
    let p = err_from_is_err_and c.from_residual.result c.from_residual.ensures.1 in
    rw (p.1, p.2) (fails_loop _ _ (consumes_or_behind true (scope_in c.args.names.now) c.args.depth (level true (scope_in c.args.names.now) c.args.depth) (local_level true (scope_in c.args.names.now) c.args.depth) c.args.whole) c.in_err-flag.field-0.0 _ _ _ _ (sym c.is_at.ensures ∙ c.loop-c-test.true) c.in_err-flag.ensures.gives c.loop-c.invariant.0)

pub ors-returns-clause-gives : goal.ors-returns-clause-gives
ors-returns-clause-gives t c =
    loop_ends _ _ (consumes_or_behind true (scope_in c.args.names.now) c.args.depth (level true (scope_in c.args.names.now) c.args.depth) (local_level true (scope_in c.args.names.now) c.args.depth) c.args.whole) _ _ _ (sym c.is_at.ensures ∙ c.loop-c-test.false) c.loop-c.invariant.0

pub semicolons-loop-c-smaller : goal.semicolons-loop-c-smaller
semicolons-loop-c-smaller t c = consumes_semicolon true (scope_in c.args.names.now) c.args.depth (level true (scope_in c.args.names.now) c.args.depth)
    (local_level true (scope_in c.args.names.now) c.args.depth) (map triple_of c.loop-c.xs.items, c.loop-c.ended) (ahead c.loop-c.c)
    (map triple_of c.semicolon.new.xs.items, c.in_ok-ended.ended) (ahead c.semicolon.new.c) c.in_ok-ended.ensures.gives

pub semicolons-loop-c-preserved : goal.semicolons-loop-c-preserved
semicolons-loop-c-preserved t c = (
  loop_goes _ _ (consumes_semicolon true (scope_in c.args.names.now) c.args.depth (level true (scope_in c.args.names.now) c.args.depth) (local_level true (scope_in c.args.names.now) c.args.depth)) _ _ _ _ _ (sym c.is_at.ensures ∙ c.loop-c-test.true) c.in_ok-ended.ensures.gives c.loop-c.invariant.0,
  c.in_ok-ended.ensures.source ∙ c.loop-c.invariant.1,
)

pub semicolons-returns-in_err-ended-clause-gives : goal.semicolons-returns-in_err-ended-clause-gives
semicolons-returns-in_err-ended-clause-gives t c =
    let p = err_from_is_err_and c.from_residual.result c.from_residual.ensures.1 in
    rw (p.1, p.2) (fails_loop _ _ (consumes_semicolon true (scope_in c.args.names.now) c.args.depth (level true (scope_in c.args.names.now) c.args.depth) (local_level true (scope_in c.args.names.now) c.args.depth)) c.in_err-ended.field-0.0 _ _ _ _ (sym c.is_at.ensures ∙ c.loop-c-test.true) c.in_err-ended.ensures.gives c.loop-c.invariant.0)

pub semicolons-returns-clause-gives : goal.semicolons-returns-clause-gives
semicolons-returns-clause-gives t c =
    loop_ends _ _ (consumes_semicolon true (scope_in c.args.names.now) c.args.depth (level true (scope_in c.args.names.now) c.args.depth) (local_level true (scope_in c.args.names.now) c.args.depth)) _ _ _ (sym c.is_at.ensures ∙ c.loop-c-test.false) c.loop-c.invariant.0

pub bars-loop-c-smaller : goal.bars-loop-c-smaller
bars-loop-c-smaller t c = consumes_bar true (scope_in c.args.names.now) c.args.depth (level true (scope_in c.args.names.now) c.args.depth)
    (local_level true (scope_in c.args.names.now) c.args.depth) (map triple_of c.loop-c.xs.items) (ahead c.loop-c.c) (map triple_of c.bar.new.xs.items) (ahead c.bar.new.c) c.in_ok-bar.ensures.gives

pub bars-loop-c-preserved : goal.bars-loop-c-preserved
bars-loop-c-preserved t c = (
  loop_goes _ _ (consumes_bar true (scope_in c.args.names.now) c.args.depth (level true (scope_in c.args.names.now) c.args.depth) (local_level true (scope_in c.args.names.now) c.args.depth)) _ _ _ _ _ (sym c.is_at.ensures ∙ c.loop-c-test.true) c.in_ok-bar.ensures.gives c.loop-c.invariant.0,
  c.in_ok-bar.ensures.source ∙ c.loop-c.invariant.1,
)

pub bars-returns-in_err-bar-clause-gives : goal.bars-returns-in_err-bar-clause-gives
bars-returns-in_err-bar-clause-gives t c =
    let p = err_from_is_err_and c.from_residual.result c.from_residual.ensures.1 in
    rw (p.1, p.2) (fails_loop _ _ (consumes_bar true (scope_in c.args.names.now) c.args.depth (level true (scope_in c.args.names.now) c.args.depth) (local_level true (scope_in c.args.names.now) c.args.depth)) c.in_err-bar.field-0.0 _ _ _ _ (sym c.is_at.ensures ∙ c.loop-c-test.true) c.in_err-bar.ensures.gives c.loop-c.invariant.0)

pub bars-returns-clause-gives : goal.bars-returns-clause-gives
bars-returns-clause-gives t c =
    loop_ends _ _ (consumes_bar true (scope_in c.args.names.now) c.args.depth (level true (scope_in c.args.names.now) c.args.depth) (local_level true (scope_in c.args.names.now) c.args.depth)) _ _ _ (sym c.is_at.ensures ∙ c.loop-c-test.false) c.loop-c.invariant.0
