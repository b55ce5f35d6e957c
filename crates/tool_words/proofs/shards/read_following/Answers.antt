use Rattle.std.proofs.Common.{◌≡◌, ◌≢◌, [], map, rules}
use Rattle.std.specs.Prelude.{string_bytes}
use Rattle.clap.specs.Words.{app_of, found_of, rows_of}
use Rattle.command_words.specs.Commands.{faults, rows}
use Rattle.tool_words.specs.Asked.{FailsFollowing}
use Rattle.tool_words.specs.Commands.{followed}
use Rattle.tool_words.specs.Lent.{schemed_of}
use Rattle.tool_words.specs.Requests.{IsSchemed}
use Rattle.tool_words.proofs.Handed.{failed, not_taken, unfound}
use Rattle.tool_words.proofs.shards.read_following.Goals as goal

pub returns-in_default-clause-fault : goal.returns-in_default-clause-fault
returns-in_default-clause-fault c =
    let words = map string_bytes c.args.words.now in
    let refused : faults (app_of c.in_ok-command.command) words ≢ [] = search rules in
    not_taken followed (app_of c.in_ok-command.command) IsSchemed FailsFollowing words c.in_ok-command.ensures refused

pub returns-in_err-asked-clause-fault : goal.returns-in_err-asked-clause-fault
returns-in_err-asked-clause-fault c =
    let words = map string_bytes c.args.words.now in
    let same : rows_of (found_of c.in-Some.matches) ≡ rows (app_of c.in_ok-command.command) words = search rules in
    unfound followed (app_of c.in_ok-command.command) IsSchemed FailsFollowing words c.in_ok-command.ensures (rows_of (found_of c.in-Some.matches)) same
    c.from_residual-in_err-asked.result c.in_err-asked.field-0.0 c.from_residual-in_err-asked.ensures.1 c.in_err-asked.ensures.fault

pub returns-in_err-following-clause-fault : goal.returns-in_err-following-clause-fault
returns-in_err-following-clause-fault c =
    let words = map string_bytes c.args.words.now in
    let same : rows_of (found_of c.in-Some.matches) ≡ rows (app_of c.in_ok-command.command) words = search rules in
    let taken : faults (app_of c.in_ok-command.command) words ≡ [] = search rules in
    failed followed (app_of c.in_ok-command.command) IsSchemed FailsFollowing words c.in_ok-command.ensures (rows_of (found_of c.in-Some.matches)) same
    c.from_residual-in_err-following.result c.in_err-following.field-0.0 c.from_residual-in_err-following.ensures.1 taken (schemed_of c.in_ok-asked.asked) c.in_ok-asked.ensures.ok c.in_err-following.ensures.fault
