use Rattle.std.proofs.Common.{subst, string_bytes, sym}
use Rattle.std.proofs.lemmas.Str.{IsUtf8-string_bytes}
use Rattle.shexc_reader.specs.Laws.{HasScheme}
use Rattle.schema_reader.proofs.Answered.{schemed}
use Rattle.schema_reader.proofs.reader.resolve_import.Goals as goal

pub returns-in-Ok-clause-scheme : goal.returns-in-Ok-clause-scheme
returns-in-Ok-clause-scheme c =
    subst HasScheme (sym c.from_string.ensures) (schemed c.args.base.now c.as_str.result.now (string_bytes c.in-Ok.iri) (IsUtf8-string_bytes c.in-Ok.iri) c.requires c.in-Ok.ensures.scheme)
