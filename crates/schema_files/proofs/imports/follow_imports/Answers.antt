use Rattle.std.proofs.Common.{◌≡◌, length, subst}
use Rattle.schema_files.specs.Held.{asked_of, imports_at, sources_of}
use Rattle.schema_files.proofs.Steps.{passed_here}
use Rattle.schema_files.proofs.imports.follow_imports.Goals as goal

pub returns-clause-followed : goal.returns-clause-followed
returns-clause-followed g c =
    let a = asked_of c.args.asked.now in
    passed_here a c.args.held.now.items c.loop-number.held.items c.args.at c.loop-number.number c.import_count-count.result c.requires.inside c.loop-number.invariant.grown
    (subst (λ hs. length (imports_at (sources_of a hs) c.args.at) ≡
    c.import_count-count.result) c.as_slice.ensures.value (c.import_count-count.ensures a)) c.loop-number-test.false c.loop-number.auto.number-end c.loop-number.invariant.followed
