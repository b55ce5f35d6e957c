use Rattle.std.proofs.Common.{[]}
use Rattle.input_names.specs.Lent.{import_of}
use Rattle.shex_tools.proofs.Bases.{seen_twice}
use Rattle.shex_tools.proofs.showing.import_base.Goals as goal

pub returns-in-Some : goal.returns-in-Some
returns-in-Some c =
    seen_twice import_of (λ w. w.iri) c.args.words.now c.args.number c.in-Some.word.now [] c.in-Some.ensures.lookup.3.0 c.in-Some.ensures.lookup.1
