use Rattle.std.proofs.Common.{[], arith, subst, sym}
use Rattle.std.proofs.lemmas.Result.{err_from_is_err_and}
use Rattle.lists.specs.Distinct.{AreDistinct}
use Rattle.schema_tree.specs.Edges.{IsStratum}
use Rattle.schema_tree.specs.Loaded.{IsLoaded}
use Rattle.shex_inputs.specs.Held.{held_by}
use Rattle.typing_session.specs.Seen.{Seen}
use Rattle.session_run.specs.Running.{IsDone, StopsOr, state_of}
use Rattle.session_run.specs.Script.{Runs, refused}
use Rattle.session_run.proofs.Stopped.{command_stops}
use Rattle.session_run.proofs.responding.answer.Goals as goal

pub session_of-requires-clause-budget : goal.session_of-requires-clause-budget
session_of-requires-clause-budget c = let le = c.requires.budget in omega (arith, le)

pub run-said-requires : goal.run-said-requires
run-said-requires c = record {
  loaded = subst (λ (x : Seen). IsLoaded x.schema) (sym c.in_ok-session.ensures.seen) c.requires.loaded;
  strata = subst (λ (x : Seen). IsStratum x.schema x.strata) (sym c.in_ok-session.ensures.seen) c.requires.strata;
  distinct = subst (λ (x : Seen). AreDistinct x.graph) (sym c.in_ok-session.ensures.seen) c.in_ok-session.ensures.distinct;
}

pub returns-in_err-said-clause-stops : goal.returns-in_err-said-clause-stops
returns-in_err-said-clause-stops c = λ digests.
    let p = err_from_is_err_and c.from_residual-in_err-said.result c.from_residual-in_err-said.ensures.1 in
    rw p.1 (command_stops (held_by c.args.holding digests) c.args.budget c.args.commands.items c.in_err-said.field-0.0 p.0
    (subst (λ (x : Seen). StopsOr (λ e. Runs x.schema x.strata x.budget (state_of x) [] c.args.commands.items (refused e)) c.in_err-said.field-0.0) c.in_ok-session.ensures.seen c.in_err-said.ensures.stopped) p.2)

pub returns-clause-answers : goal.returns-clause-answers
returns-clause-answers c = λ digests.
    let done = subst (λ (x : Seen). IsDone x c.args.commands.items c.in_ok-said.field-0) c.in_ok-session.ensures.seen c.in_ok-said.ensures.done in
    (done.replies, done.runs, done.says)
