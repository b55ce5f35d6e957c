use Rattle.std.proofs.Common.{◌≡◌, ◌≢◌, ◌∙◌, [], map, rules, sym}
use Rattle.std.specs.Prelude.{string_bytes}
use Rattle.clap.specs.Words.{app_of, found_of, rows_of}
use Rattle.command_words.specs.Commands.{faults, rows}
use Rattle.tool_words.specs.Asked.{FailsConverting, failing, schema_base, schema_ending}
use Rattle.tool_words.specs.Commands.{convert}
use Rattle.tool_words.specs.Lent.{converting_of}
use Rattle.tool_words.specs.Requests.{IsNamed}
use Rattle.tool_words.proofs.Handed.{asks_for, not_found, not_taken}
use Rattle.tool_words.proofs.tool.read_converting.Goals as goal

pub returns-in_default-clause-fault : goal.returns-in_default-clause-fault
returns-in_default-clause-fault c =
    let words = map string_bytes c.args.words.now in
    let refused : faults (app_of c.in_ok-command.command) words ≢ [] = search rules in
    not_taken convert (app_of c.in_ok-command.command) IsNamed FailsConverting words c.in_ok-command.ensures refused

pub returns-in_default-read_named-clause-fault : goal.returns-in_default-read_named-clause-fault
returns-in_default-read_named-clause-fault c =
    let words = map string_bytes c.args.words.now in
    let same : rows_of (found_of c.in-Some.matches) ≡ rows (app_of c.in_ok-command.command) words = search rules in
    not_found convert (app_of c.in_ok-command.command) IsNamed FailsConverting words c.in_ok-command.ensures (rows_of (found_of c.in-Some.matches)) same
    (c.in_default-read_named.ensures.missed (search rules))

pub returns-then-not-is_schema_name-clause-fault : goal.returns-then-not-is_schema_name-clause-fault
returns-then-not-is_schema_name-clause-fault c =
    let words = map string_bytes c.args.words.now in
    let same : rows_of (found_of c.in-Some.matches) ≡ rows (app_of c.in_ok-command.command) words = search rules in
    let taken : faults (app_of c.in_ok-command.command) words ≡ [] = search rules in
    failing (converting_of c.in-Some-read_named.converting)
    (asks_for convert (app_of c.in_ok-command.command) IsNamed FailsConverting words c.in_ok-command.ensures (rows_of (found_of c.in-Some.matches)) same taken
    (converting_of c.in-Some-read_named.converting) c.in-Some-read_named.ensures.found)
    _ (schema_ending (sym c.is_schema_name.ensures ∙ c.if-not-is_schema_name.true))

pub returns-then-not-is_base-clause-fault : goal.returns-then-not-is_base-clause-fault
returns-then-not-is_base-clause-fault c =
    let words = map string_bytes c.args.words.now in
    let same : rows_of (found_of c.in-Some.matches) ≡ rows (app_of c.in_ok-command.command) words = search rules in
    let taken : faults (app_of c.in_ok-command.command) words ≡ [] = search rules in
    failing (converting_of c.in-Some-read_named.converting)
    (asks_for convert (app_of c.in_ok-command.command) IsNamed FailsConverting words c.in_ok-command.ensures (rows_of (found_of c.in-Some.matches)) same taken
    (converting_of c.in-Some-read_named.converting) c.in-Some-read_named.ensures.found)
    _ (schema_base (sym c.is_schema_name.ensures ∙ c.if-not-is_schema_name.false) (sym c.is_base.ensures ∙ c.if-not-is_base.true))
