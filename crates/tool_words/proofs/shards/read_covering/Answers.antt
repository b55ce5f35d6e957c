use Rattle.std.proofs.Common.{◌≡◌, ◌≢◌, [], map, rules}
use Rattle.std.specs.Prelude.{string_bytes}
use Rattle.clap.specs.Words.{app_of, found_of, rows_of}
use Rattle.command_words.specs.Commands.{faults, rows}
use Rattle.tool_words.specs.Asked.{FailsCovering}
use Rattle.tool_words.specs.Commands.{covers}
use Rattle.tool_words.specs.Requests.{IsCovering}
use Rattle.tool_words.proofs.Handed.{not_taken, unfound}
use Rattle.tool_words.proofs.shards.read_covering.Goals as goal

pub returns-in_default-clause-fault : goal.returns-in_default-clause-fault
returns-in_default-clause-fault c =
    let words = map string_bytes c.args.words.now in
    let refused : faults (app_of c.in_ok-command.command) words ≢ [] = search rules in
    not_taken covers (app_of c.in_ok-command.command) IsCovering FailsCovering words c.in_ok-command.ensures refused

pub returns-in_err-covering-clause-fault : goal.returns-in_err-covering-clause-fault
returns-in_err-covering-clause-fault c =
    let words = map string_bytes c.args.words.now in
    let same : rows_of (found_of c.in-Some.matches) ≡ rows (app_of c.in_ok-command.command) words = search rules in
    unfound covers (app_of c.in_ok-command.command) IsCovering FailsCovering words c.in_ok-command.ensures (rows_of (found_of c.in-Some.matches)) same
    c.from_residual-in_err-covering.result c.in_err-covering.field-0.0 c.from_residual-in_err-covering.ensures.1 c.in_err-covering.ensures.fault
