use Rattle.std.proofs.Common.{map, ◌∙◌, ◌≢◌}
use Rattle.std.specs.Prelude.{string_bytes}
use Rattle.clap.specs.Words.{app_of, kind_of}
use Rattle.clap.specs.declared.error.kind.ErrorKind.TheVariants as kind
use Rattle.command_words.proofs.Found.{refused, same_rows, taken}
use Rattle.command_words.proofs.matches.matches_of.Goals as goal

pub returns-in-Ok-clause-some : goal.returns-in-Ok-clause-some
returns-in-Ok-clause-some c = (
  taken (app_of c.args.command) (map string_bytes c.args.words.now) c.requires c.in-Ok.ensures.kinds,
  same_rows (app_of c.args.command) (map string_bytes c.args.words.now) c.in-Ok.matches c.requires c.in-Ok.ensures.matches,
)

pub returns-clause-none : goal.returns-clause-none
returns-clause-none c = λ none.
    let other : kind_of c.in-Err.error ≢ kind.OutOfMemory = λ e. c.in_default.not-OutOfMemory (c.kind.ensures ∙ e) in
    refused (app_of c.args.command) (map string_bytes c.args.words.now) c.in-Err.error c.requires other c.in-Err.ensures.kinds
