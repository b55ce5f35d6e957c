use Rattle.std.proofs.Common.{◌≡◌, ◌≢◌, [], map, rules}
use Rattle.std.specs.Prelude.{string_bytes}
use Rattle.clap.specs.Words.{app_of, found_of, rows_of}
use Rattle.command_words.specs.Commands.{faults, rows}
use Rattle.tool_words.specs.Asked.{FailsExplaining}
use Rattle.tool_words.specs.Commands.{explain}
use Rattle.tool_words.specs.Lent.{explained_of}
use Rattle.tool_words.specs.Requests.{IsExplained}
use Rattle.tool_words.proofs.Handed.{failed, not_taken, unfound}
use Rattle.tool_words.proofs.tool.read_explaining.Goals as goal

pub returns-in_default-clause-fault : goal.returns-in_default-clause-fault
returns-in_default-clause-fault c =
    let words = map string_bytes c.args.words.now in
    let refused : faults (app_of c.in_ok-command.command) words ≢ [] = search rules in
    not_taken explain (app_of c.in_ok-command.command) IsExplained FailsExplaining words c.in_ok-command.ensures refused

pub returns-in_err-budgeted-clause-fault : goal.returns-in_err-budgeted-clause-fault
returns-in_err-budgeted-clause-fault c =
    let words = map string_bytes c.args.words.now in
    let same : rows_of (found_of c.in-Some.matches) ≡ rows (app_of c.in_ok-command.command) words = search rules in
    unfound explain (app_of c.in_ok-command.command) IsExplained FailsExplaining words c.in_ok-command.ensures (rows_of (found_of c.in-Some.matches)) same
    c.from_residual-in_err-budgeted.result c.in_err-budgeted.field-0.0 c.from_residual-in_err-budgeted.ensures.1 c.in_err-budgeted.ensures.fault

pub returns-in_err-inputs-clause-fault : goal.returns-in_err-inputs-clause-fault
returns-in_err-inputs-clause-fault c =
    let words = map string_bytes c.args.words.now in
    let same : rows_of (found_of c.in-Some.matches) ≡ rows (app_of c.in_ok-command.command) words = search rules in
    let taken : faults (app_of c.in_ok-command.command) words ≡ [] = search rules in
    failed explain (app_of c.in_ok-command.command) IsExplained FailsExplaining words c.in_ok-command.ensures (rows_of (found_of c.in-Some.matches)) same
    c.from_residual-in_err-inputs.result c.in_err-inputs.field-0.0 c.from_residual-in_err-inputs.ensures.1 taken (explained_of c.in_ok-budgeted.field-0) c.in_ok-budgeted.ensures.ok c.in_err-inputs.ensures.fault
