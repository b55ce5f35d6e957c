use Rattle.std.proofs.Common.{codes, map}
use Rattle.std.specs.Prelude.{string_bytes}
use Rattle.clap.specs.Words.{app_of, found_of, rows_of}
use Rattle.command_words.specs.Commands.{check}
use Rattle.command_words.proofs.Seen.{found_with, named_with, not_accepted, not_with, to_check}
use Rattle.command_words.proofs.requests.read_to_check.Goals as goal

pub returns-in_err-matches-clause-fault : goal.returns-in_err-matches-clause-fault
returns-in_err-matches-clause-fault c =
    not_accepted (codes "check") check (app_of c.in_ok-command.command) to_check c.in_ok-command.ensures (map string_bytes c.args.words.now)
    c.from_residual-in_err-matches.result c.in_err-matches.field-0.0 c.from_residual-in_err-matches.ensures.1 c.in_err-matches.ensures.fault

pub returns : goal.returns
returns c =
    let words = map string_bytes c.args.words.now in
    let app = app_of c.in_ok-command.command in
    let seen = rows_of (found_of c.in_ok-matches.matches) in
    record {
      ok = found_with (codes "check") check app to_check c.in_ok-command.ensures words seen c.checking.result c.with_task-request.result c.in_ok-matches.ensures.ok.0 c.in_ok-matches.ensures.ok.1 c.checking.ensures.found c.checking.ensures.named c.with_task-request.ensures.given c.with_task-request.ensures.task;
      named = named_with (codes "check") check app to_check c.in_ok-command.ensures words c.checking.result c.with_task-request.result c.checking.ensures.named c.with_task-request.ensures.task;
      fault = not_with (codes "check") check app to_check c.in_ok-command.ensures words seen c.checking.result c.with_task-request.result c.in_ok-matches.ensures.ok.1 c.checking.ensures.missed c.with_task-request.ensures.fault;
    }
