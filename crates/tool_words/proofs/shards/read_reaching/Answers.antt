use Rattle.std.proofs.Common.{◌≡◌, ◌≢◌, [], map, rules}
use Rattle.std.specs.Prelude.{string_bytes}
use Rattle.clap.specs.Words.{app_of, found_of, rows_of}
use Rattle.command_words.specs.Commands.{faults, rows}
use Rattle.tool_words.specs.Asked.{FailsReaching}
use Rattle.tool_words.specs.Commands.{reached}
use Rattle.tool_words.specs.Lent.{mapped_of}
use Rattle.tool_words.specs.Requests.{IsMapped}
use Rattle.tool_words.proofs.Handed.{failed, not_taken, unfound}
use Rattle.tool_words.proofs.shards.read_reaching.Goals as goal

pub returns-in_default-clause-fault : goal.returns-in_default-clause-fault
returns-in_default-clause-fault c =
    let words = map string_bytes c.args.words.now in
    let refused : faults (app_of c.in_ok-command.command) words ≢ [] = search rules in
    not_taken reached (app_of c.in_ok-command.command) IsMapped FailsReaching words c.in_ok-command.ensures refused

pub returns-in_err-given-clause-fault : goal.returns-in_err-given-clause-fault
returns-in_err-given-clause-fault c =
    let words = map string_bytes c.args.words.now in
    let same : rows_of (found_of c.in-Some.matches) ≡ rows (app_of c.in_ok-command.command) words = search rules in
    unfound reached (app_of c.in_ok-command.command) IsMapped FailsReaching words c.in_ok-command.ensures (rows_of (found_of c.in-Some.matches)) same
    c.from_residual-in_err-given.result c.in_err-given.field-0.0 c.from_residual-in_err-given.ensures.1 c.in_err-given.ensures.fault

pub returns-in_err-inputs-clause-fault : goal.returns-in_err-inputs-clause-fault
returns-in_err-inputs-clause-fault c =
    let words = map string_bytes c.args.words.now in
    let same : rows_of (found_of c.in-Some.matches) ≡ rows (app_of c.in_ok-command.command) words = search rules in
    let taken : faults (app_of c.in_ok-command.command) words ≡ [] = search rules in
    failed reached (app_of c.in_ok-command.command) IsMapped FailsReaching words c.in_ok-command.ensures (rows_of (found_of c.in-Some.matches)) same
    c.from_residual-in_err-inputs.result c.in_err-inputs.field-0.0 c.from_residual-in_err-inputs.ensures.1 taken (mapped_of c.in_ok-given.field-0) c.in_ok-given.ensures.ok c.in_err-inputs.ensures.fault
