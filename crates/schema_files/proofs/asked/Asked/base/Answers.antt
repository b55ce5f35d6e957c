use Rattle.std.proofs.Common.{◌∙◌, ap, sym, []}
use Rattle.input_names.specs.Lent.{import_of}
use Rattle.schema_files.specs.Held.{asked_of}
use Rattle.schema_files.specs.Named.{base_for}
use Rattle.schema_files.proofs.Words.{seen_twice}
use Rattle.schema_files.proofs.asked.Asked.base.Goals as goal

pub returns-in-Some : goal.returns-in-Some
returns-in-Some c =
    seen_twice import_of (λ w. w.iri) c.args.self.now.words.now c.in-Imported.number c.in-Some.word.now [] c.in-Some.ensures.lookup.3.0 c.in-Some.ensures.lookup.1
    ∙ ap (base_for (asked_of c.args.self.now)) (sym c.in-Imported.is)
