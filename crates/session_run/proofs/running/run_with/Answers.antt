use Rattle.std.proofs.Common.{rules}
use Rattle.std.proofs.lemmas.List.{nil_from_length}
use Rattle.std.proofs.lemmas.Result.{err_from_is_err_and}
use Rattle.session_run.proofs.Ran.{runs_done, runs_on, runs_stop, stays_loaded, stays_stratified}
use Rattle.session_run.proofs.running.run_with.Goals as goal

pub step-requires : goal.step-requires
step-requires g c = record {
  loaded = stays_loaded c.args.session.now c.loop-command.session c.loop-command.invariant.keeps c.requires.loaded;
  strata = stays_stratified c.args.session.now c.loop-command.session c.loop-command.invariant.keeps c.requires.strata;
  distinct = c.loop-command.invariant.distinct;
}

pub returns-in_err-step-clause-stopped : goal.returns-in_err-step-clause-stopped
returns-in_err-step-clause-stopped g c =
    let p = err_from_is_err_and c.from_residual.result c.from_residual.ensures.1 in
    rw (p.1, p.2)
    (runs_stop c.args.session.now c.args.commands.items c.loop-command.session c.loop-command.session c.loop-command.said c.loop-command.said c.loop-command.command-iterator.rest.items c.next.new.self.rest.items c.in-Some.command c.in-Some.ensures.steps.0 c.loop-command.invariant c.in_err-step.field-0.0 c.in_err-step.ensures.stops)

pub loop-command-preserved : goal.loop-command-preserved
loop-command-preserved g c =
    let (more, steps, says) = c.in_ok-step.ensures.steps in
    runs_on c.args.session.now c.args.commands.items c.loop-command.session c.step.new.session c.loop-command.said c.step.new.said c.loop-command.command-iterator.rest.items c.next.new.self.rest.items c.in-Some.command c.in-Some.ensures.steps.0 c.loop-command.invariant more c.step.ensures.keeps steps says

pub returns-clause-done : goal.returns-clause-done
returns-clause-done g c =
    runs_done c.args.session.now c.args.commands.items c.loop-command.session c.loop-command.said c.loop-command.command-iterator.rest.items (nil_from_length c.loop-command.command-iterator.rest.items (search rules)) c.loop-command.invariant
