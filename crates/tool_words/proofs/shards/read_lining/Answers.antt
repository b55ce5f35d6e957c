use Rattle.std.proofs.Common.{◌≡◌, ◌≢◌, ◌∙◌, [], map, rules, sym}
use Rattle.std.specs.Prelude.{string_bytes}
use Rattle.clap.specs.Words.{app_of, found_of, rows_of}
use Rattle.command_words.specs.Commands.{faults, rows}
use Rattle.tool_words.specs.Asked.{FailsLining, failing, line_base, line_ending}
use Rattle.tool_words.specs.Commands.{lines}
use Rattle.tool_words.specs.Lent.{lining_of}
use Rattle.tool_words.specs.Requests.{IsLining}
use Rattle.tool_words.proofs.Handed.{asks_for, not_found, not_taken}
use Rattle.tool_words.proofs.shards.read_lining.Goals as goal

pub returns-in_default-clause-fault : goal.returns-in_default-clause-fault
returns-in_default-clause-fault c =
    let words = map string_bytes c.args.words.now in
    let refused : faults (app_of c.in_ok-command.command) words ≢ [] = search rules in
    not_taken lines (app_of c.in_ok-command.command) IsLining FailsLining words c.in_ok-command.ensures refused

pub returns-in_default-read_lined-clause-fault : goal.returns-in_default-read_lined-clause-fault
returns-in_default-read_lined-clause-fault c =
    let words = map string_bytes c.args.words.now in
    let same : rows_of (found_of c.in-Some.matches) ≡ rows (app_of c.in_ok-command.command) words = search rules in
    not_found lines (app_of c.in_ok-command.command) IsLining FailsLining words c.in_ok-command.ensures (rows_of (found_of c.in-Some.matches)) same
    (c.in_default-read_lined.ensures.missed (search rules))

pub returns-then-not-is_data_name-clause-fault : goal.returns-then-not-is_data_name-clause-fault
returns-then-not-is_data_name-clause-fault c =
    let words = map string_bytes c.args.words.now in
    let same : rows_of (found_of c.in-Some.matches) ≡ rows (app_of c.in_ok-command.command) words = search rules in
    let taken : faults (app_of c.in_ok-command.command) words ≡ [] = search rules in
    failing (lining_of c.in-Some-read_lined.lining)
    (asks_for lines (app_of c.in_ok-command.command) IsLining FailsLining words c.in_ok-command.ensures (rows_of (found_of c.in-Some.matches)) same taken
    (lining_of c.in-Some-read_lined.lining) c.in-Some-read_lined.ensures.found)
    _ (line_ending (sym c.is_data_name.ensures ∙ c.if-not-is_data_name.true))

pub returns-then-not-is_base-clause-fault : goal.returns-then-not-is_base-clause-fault
returns-then-not-is_base-clause-fault c =
    let words = map string_bytes c.args.words.now in
    let same : rows_of (found_of c.in-Some.matches) ≡ rows (app_of c.in_ok-command.command) words = search rules in
    let taken : faults (app_of c.in_ok-command.command) words ≡ [] = search rules in
    failing (lining_of c.in-Some-read_lined.lining)
    (asks_for lines (app_of c.in_ok-command.command) IsLining FailsLining words c.in_ok-command.ensures (rows_of (found_of c.in-Some.matches)) same taken
    (lining_of c.in-Some-read_lined.lining) c.in-Some-read_lined.ensures.found)
    _ (line_base (sym c.is_data_name.ensures ∙ c.if-not-is_data_name.false) (sym c.is_base.ensures ∙ c.if-not-is_base.true))
